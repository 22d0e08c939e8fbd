use Rattle.std.proofs.Common.{◌≡◌, map, take}
use Rattle.pgs_resolve_declared.specs.Order.{resolved_spec}
use Rattle.pgs_resolve.proofs.specifications.+specifications.Given as goal

abbrev pub invariant-resolve_parts-loop-part : goal.invariant-resolve_parts-loop-part
invariant-resolve_parts-loop-part l = l.resolved.items ≡ map (resolved_spec l.names) (take l.part-index l.parts)
