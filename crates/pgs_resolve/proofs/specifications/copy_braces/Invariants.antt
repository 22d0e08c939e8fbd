use Rattle.std.proofs.Common.{◌≡◌, take}
use Rattle.pgs_resolve.proofs.specifications.copy_braces.Given as goal

abbrev pub invariant-loop-property : goal.invariant-loop-property
invariant-loop-property l = l.properties.items ≡ take l.property-index l.property-items
