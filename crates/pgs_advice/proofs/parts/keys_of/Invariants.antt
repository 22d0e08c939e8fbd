use Rattle.std.proofs.Common.{◌≡◌, map, take}
use Rattle.std.specs.List.{flat_map}
use Rattle.pgs_advice.specs.Parts.{keys_in}
use Rattle.pgs_advice.proofs.parts.keys_of.Given as goal

abbrev pub invariant-loop-part : goal.invariant-loop-part
invariant-loop-part l = l.keys ≡ flat_map keys_in (map (λ part. part.now) (take l.part-index l.parts))
