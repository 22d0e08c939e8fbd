use Rattle.std.proofs.Common.{◌≡◌, ◌+◌, length}
use Rattle.pgs_resolve_keys.proofs.Edges.{edges_in}
use Rattle.pgs_resolve_keys.proofs.key_faults.has_many_edges.Given as goal

abbrev pub invariant-loop-rest : goal.invariant-loop-rest
invariant-loop-rest l = l.left + edges_in l.fn.paths ≡ 8 + edges_in l.rest

abbrev pub decreases-loop-rest : goal.decreases-loop-rest
decreases-loop-rest l = length l.rest
