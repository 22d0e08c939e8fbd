use Rattle.std.proofs.Common.{◌≡◌, ◌++◌, map, take}
use Rattle.std.specs.List.{flat_map}
use Rattle.pgs_advice.specs.Parts.{parts_of}
use Rattle.pgs_advice.proofs.words.push_middles.Given as goal

abbrev pub invariant-loop-edge : goal.invariant-loop-edge
invariant-loop-edge l =
    map (λ part. part.now) l.parts.items
    ≡ map (λ part. part.now) l.fn.parts.items ++ flat_map (λ type. parts_of type.middle) (take l.edge-index l.types)
