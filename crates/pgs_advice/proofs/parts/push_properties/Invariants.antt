use Rattle.std.proofs.Common.{◌≡◌, ◌++◌, map, take}
use Rattle.pgs_advice.proofs.parts.push_properties.Given as goal

abbrev pub invariant-loop-property : goal.invariant-loop-property
invariant-loop-property l = l.keys ≡ l.fn.keys ++ map (λ property. property.key) (take l.property-index l.properties)
