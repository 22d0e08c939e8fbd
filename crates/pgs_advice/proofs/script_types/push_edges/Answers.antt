use Rattle.std.proofs.Common.{◌≡◌, ◌<◌, Bool, List, ℕ, length, Option, Some, None, sym, ap, subst, ◌∙◌, arith}
use Rattle.std.specs.Prelude.{if◌then◌else◌}
use Rattle.std.proofs.lemmas.Bool.{lt-ltb}
use Rattle.pgs_syntax.specs.declared.resolved.TypeNo.TheVariants.{Edge}
use Rattle.pgs_advice.specs.Used.{used_edge}
use Rattle.pgs_advice.proofs.Numbered.{more_flagged}
use Rattle.pgs_advice.proofs.script_types.push_edges.Goals as goal

pub loop-place-preserved : goal.loop-place-preserved
loop-place-preserved c = λ resolved same are.
    let items = c.args.edges.now in
    let place = c.loop-place.place in
    let type = c.index-edges-place.result in
    let within : place < length items = omega arith in
    let there = lt-ltb place (length resolved.edges) (subst (λ xs. place < length xs) same within) in
    let flag = c.has_edge.ensures ∙ are.are (Edge place) there in
    more_flagged (used_edge resolved) c.args.names.now items place type c.loop-place.names c.push_if.new.names c.has_edge.result type.name within c.index-edges-place.is
    (c.loop-place.invariant resolved same are) (ap (λ (b : Bool). if b then Some type.name else None) (sym flag)) c.in_ok-push_if.ensures
