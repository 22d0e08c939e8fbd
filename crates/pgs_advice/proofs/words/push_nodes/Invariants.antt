use Rattle.std.proofs.Common.{◌≡◌, ◌++◌, map, take}
use Rattle.std.specs.List.{flat_map}
use Rattle.pgs_advice.specs.Parts.{parts_of}
use Rattle.pgs_advice.proofs.words.push_nodes.Given as goal

abbrev pub invariant-loop-node : goal.invariant-loop-node
invariant-loop-node l =
    map (λ part. part.now) l.parts.items
    ≡ map (λ part. part.now) l.fn.parts.items ++ flat_map (λ type. parts_of type.spec) (take l.node-index l.types)
