use Rattle.std.proofs.Common.{◌≡◌, map, take}
use Rattle.pgs_base.specs.declared.element.Elem.TheVariants.{Node}
use Rattle.pgs_match.proofs.calls.node_elems.Given as goal

abbrev pub invariant-loop-id : goal.invariant-loop-id
invariant-loop-id l = l.elems.items ≡ map (λ id. Node id) (take l.id-index l.ids)
