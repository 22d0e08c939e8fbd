use Rattle.std.proofs.Common.{◌≡◌, ◌++◌, take}
use Rattle.std.specs.List.{enumerate_from, filter_map}
use Rattle.pgs_syntax.specs.declared.resolved.Resolved.{Resolved}
use Rattle.pgs_advice.specs.Used.{used_types, used_edge, AreMarks}
use Rattle.pgs_advice.proofs.script_types.push_edges.Given as goal

abbrev pub invariant-loop-place : goal.invariant-loop-place
invariant-loop-place l = (resolved : Resolved) → l.edges ≡ resolved.edges → AreMarks resolved (used_types resolved) l.marks →
    l.names ≡ l.fn.names ++ filter_map (used_edge resolved) (enumerate_from 0 (take l.place l.edges))
