use Rattle.std.proofs.lemmas.Result.{on_ok_weaker}
use Rattle.pgs_base.proofs.Ascending.{ascending-insert_entry}
use Rattle.pgs_graph.proofs.Deltas.{node_cmp_total}
use Rattle.pgs_txn.proofs.changed_rows.ChangedRows.put_node.Goals as goal

pub returns-clause-indexed : goal.returns-clause-indexed
returns-clause-indexed c = on_ok_weaker c.set.result (λ put. record {
  nodes_ascend = rw put (ascending-insert_entry node_cmp_total c.args.id c.args.row c.args.self.now.nodes c.requires.nodes_ascend);
  edges_ascend = c.requires.edges_ascend;
  ends_ascend = c.requires.ends_ascend;
  ends = c.requires.ends;
}) c.set.ensures.ok
