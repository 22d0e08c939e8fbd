use Rattle.std.proofs.Common.{take}
use Rattle.pgs_conform.specs.Shapes.{triple_of}
use Rattle.pgs_differences.specs.Nearest.{Candidates, IsEdgeCandidate}
use Rattle.pgs_differences.proofs.candidates.edge_candidates.Given as goal

abbrev pub invariant-loop-type_no : goal.invariant-loop-type_no
invariant-loop-type_no l =
    Candidates (IsEdgeCandidate l.compiled (triple_of l.source l.own l.target)) (take l.type_no-index l.type_no-items) l.nears.items
