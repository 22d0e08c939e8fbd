use Rattle.std.proofs.Common.{◌≡◌, ◌++◌, map, take}
use Rattle.std.specs.List.{flat_map}
use Rattle.pgs_advice.specs.Parts.{parts_of}
use Rattle.pgs_advice.proofs.parts.+push_parts.Given as goal

abbrev pub invariant-loop-part : goal.invariant-loop-part
invariant-loop-part l =
    map (λ part. part.now) l.parts.items
    ≡ map (λ part. part.now) l.fn.parts.items ++ flat_map parts_of (take l.part-index l.part-items)
