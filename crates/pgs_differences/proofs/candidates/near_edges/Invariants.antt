use Rattle.std.proofs.Common.{◌≡◌, flat_map, take}
use Rattle.pgs_conform.specs.Shapes.{triple_of}
use Rattle.pgs_differences.specs.Nearest.{near_edges}
use Rattle.pgs_differences.proofs.candidates.near_edges.Given as goal

abbrev pub invariant-loop-shapes : goal.invariant-loop-shapes
invariant-loop-shapes l = l.nears.items ≡ flat_map (near_edges l.number (triple_of l.source l.own l.target)) (take l.shapes-index l.triples)
