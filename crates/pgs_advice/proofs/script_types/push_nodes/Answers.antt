use Rattle.std.proofs.Common.{◌≡◌, ◌<◌, Bool, List, ℕ, length, Option, Some, None, sym, ap, subst, ◌∙◌, arith}
use Rattle.std.specs.Prelude.{if◌then◌else◌}
use Rattle.std.proofs.lemmas.Bool.{lt-ltb}
use Rattle.pgs_syntax.specs.declared.resolved.TypeNo.TheVariants.{Node}
use Rattle.pgs_advice.specs.Used.{used_node}
use Rattle.pgs_advice.proofs.Numbered.{more_flagged}
use Rattle.pgs_advice.proofs.script_types.push_nodes.Goals as goal

pub loop-place-preserved : goal.loop-place-preserved
loop-place-preserved c = λ resolved same are.
    let items = c.args.nodes.now in
    let place = c.loop-place.place in
    let type = c.index-nodes-place.result in
    let within : place < length items = omega arith in
    let there = lt-ltb place (length resolved.nodes) (subst (λ xs. place < length xs) same within) in
    let flag = c.has_node.ensures ∙ are.are (Node place) there in
    more_flagged (used_node resolved) c.args.names.now items place type c.loop-place.names c.push_if.new.names c.has_node.result type.name within c.index-nodes-place.is
    (c.loop-place.invariant resolved same are) (ap (λ (b : Bool). if b then Some type.name else None) (sym flag)) c.in_ok-push_if.ensures
