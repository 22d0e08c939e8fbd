use Rattle.std.proofs.Common.{◌≡◌, ◌+◌, ◌++◌, ◌≤◌, drop}
use Rattle.pgs_sessions.specs.Differing.{differing_nodes}
use Rattle.pgs_sessions.proofs.contents.list_nodes.Given as goal

abbrev pub invariant-loop-id : goal.invariant-loop-id
invariant-loop-id g l = record {
  listed : l.elems.items ++ differing_nodes l.graph.graph (drop l.id-index l.nodes) ≡ l.initial.elems.items ++ differing_nodes l.graph.graph l.nodes;
  no_step_back : l.initial.steps ≤ l.steps;
  looks : l.steps ≡ l.initial.steps + l.id-index;
}
