use Rattle.std.proofs.Common.{◌≡◌, ◌+◌, ◌≤◌, length, take, true}
use Rattle.std.specs.List.{list_all}
use Rattle.pgs_txn.specs.Looks.{edges_of}
use Rattle.pgs_txn.specs.Rows.{is_changed}
use Rattle.pgs_txn.proofs.edges_at_node.first_unchanged.Given as goal

abbrev pub invariant-loop-nth : goal.invariant-loop-nth
invariant-loop-nth g l = record {
  looks : l.steps ≡ l.initial.steps + l.nth;
  within : l.nth ≤ length (edges_of l.direction (g.G.GraphRead.meaning l.graph) l.id);
  changed : list_all (is_changed l.rows) (take l.nth (edges_of l.direction (g.G.GraphRead.meaning l.graph) l.id)) ≡ true;
}
