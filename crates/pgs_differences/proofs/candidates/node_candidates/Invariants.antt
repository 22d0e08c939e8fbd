use Rattle.std.proofs.Common.{take}
use Rattle.pgs_differences.specs.Nearest.{Candidates, IsNodeCandidate}
use Rattle.pgs_differences.proofs.candidates.node_candidates.Given as goal

abbrev pub invariant-loop-type_no : goal.invariant-loop-type_no
invariant-loop-type_no l = Candidates (IsNodeCandidate l.compiled l.own) (take l.type_no-index l.type_no-items) l.nears.items
