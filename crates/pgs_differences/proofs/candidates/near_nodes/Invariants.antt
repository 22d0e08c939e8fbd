use Rattle.std.proofs.Common.{◌≡◌, flat_map, take}
use Rattle.pgs_differences.specs.Nearest.{near_nodes}
use Rattle.pgs_differences.proofs.candidates.near_nodes.Given as goal

abbrev pub invariant-loop-shape : goal.invariant-loop-shape
invariant-loop-shape l = l.nears.items ≡ flat_map (near_nodes l.number l.own) (take l.shape-index l.shapes)
