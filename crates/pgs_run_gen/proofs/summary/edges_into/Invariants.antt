use Rattle.std.proofs.Common.{◌≤◌, length}
use Rattle.pgs_graph.specs.Reads.{in_edges_of}
use Rattle.pgs_run_gen.proofs.summary.edges_into.Given as goal

abbrev pub invariant-loop-nth : goal.invariant-loop-nth
invariant-loop-nth g l = l.nth ≤ length (in_edges_of (g.G.GraphRead.meaning l.graph) l.id)
