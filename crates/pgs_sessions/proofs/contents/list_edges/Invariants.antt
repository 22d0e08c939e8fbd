use Rattle.std.proofs.Common.{◌≡◌, ◌+◌, ◌++◌, ◌≤◌, drop}
use Rattle.pgs_sessions.specs.Differing.{differing_edges}
use Rattle.pgs_sessions.proofs.contents.list_edges.Given as goal

abbrev pub invariant-loop-id : goal.invariant-loop-id
invariant-loop-id g l = record {
  listed : l.elems.items ++ differing_edges l.graph.graph (drop l.id-index l.edges) ≡ l.initial.elems.items ++ differing_edges l.graph.graph l.edges;
  no_step_back : l.initial.steps ≤ l.steps;
  looks : l.steps ≡ l.initial.steps + l.id-index;
}
