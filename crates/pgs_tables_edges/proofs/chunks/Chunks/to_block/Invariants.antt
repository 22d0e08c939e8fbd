use Rattle.std.proofs.Common.{◌≡◌, take}
use Rattle.std.specs.List.{flat_map}
use Rattle.pgs_tables_edges.proofs.chunks.Chunks.to_block.Given as goal

abbrev pub invariant-loop-part : goal.invariant-loop-part
invariant-loop-part l = l.block.items ≡ flat_map (λ part. part.ids) (take l.part-index l.parts)
