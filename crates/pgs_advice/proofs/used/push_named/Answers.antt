use Rattle.std.proofs.Common.{◌+◌, ◌++◌, List, Bool, Option, take, sym, ap, ◌∙◌}
use Rattle.std.specs.Option.{option_to_list}
use denote.Bor.{Bor}
use Rattle.pgs_syntax.specs.declared.resolved.TypeNo.{TypeNo}
use Rattle.pgs_syntax.specs.declared.specification.Leaf.{Leaf}
use Rattle.pgs_syntax.specs.declared.specification.Spec.{Spec}
use Rattle.pgs_resolve_declared.proofs.Walks.{kept_through, more_kept}
use Rattle.pgs_advice.specs.Used.{type_in}
use Rattle.pgs_advice.proofs.used.push_named.Goals as goal

abbrev lent : Bor (Spec Leaf) → Spec Leaf
lent part = part.now

abbrev type_of_part : Bool → Bor (Spec Leaf) → Option TypeNo
type_of_part is_edge part = type_in is_edge part.now

pub loop-part-preserved : goal.loop-part-preserved
loop-part-preserved c =
    let parts = c.args.parts.now in
    let i = c.loop-part.part-index in
    let old = c.args.types.now.items in
    let h = type_of_part c.args.is_edge in
    more_kept h old parts i c.part-item.result c.loop-part.types.items c.push_type.new.types.items c.loop-part-test.true c.part-item.is
    (c.loop-part.invariant ∙ ap (λ (more : List TypeNo). old ++ more) (sym (kept_through lent (type_in c.args.is_edge) (take i parts))))
    (c.in_ok-push_type.ensures ∙ ap (λ (o : Option TypeNo). c.loop-part.types.items ++ option_to_list o) c.type_in.ensures)
    ∙ ap (λ (more : List TypeNo). old ++ more) (kept_through lent (type_in c.args.is_edge) (take (i + 1) parts))
