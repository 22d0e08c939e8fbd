use Rattle.std.proofs.Common.{◌≡◌, map, take}
use Rattle.std.specs.List.{filter_map}
use Rattle.pgs_advice.specs.Parts.{label_in}
use Rattle.pgs_advice.proofs.parts.labels_of.Given as goal

abbrev pub invariant-loop-part : goal.invariant-loop-part
invariant-loop-part l = l.labels ≡ filter_map label_in (map (λ part. part.now) (take l.part-index l.parts))
