use Rattle.std.proofs.Common.{Some}
use Rattle.pgs_base.proofs.Ascending.{ascending-insert_entry, ascending-insert_key}
use Rattle.pgs_graph.proofs.Deltas.{edge_cmp_total}
use Rattle.pgs_txn.proofs.Ends.{end_cmp_total, ends_put}
use Rattle.pgs_txn.proofs.changed_rows.ChangedRows.put_edge.Goals as goal

pub returns-clause-indexed : goal.returns-clause-indexed
returns-clause-indexed c = record {
  nodes_ascend = c.requires.indexed.nodes_ascend;
  edges_ascend = rw c.in_ok-set.ensures.ok (ascending-insert_entry edge_cmp_total c.args.id (Some c.args.row) c.args.self.now.edges c.requires.indexed.edges_ascend);
  ends_ascend = rw c.in_ok-put_ends.ensures (ascending-insert_key end_cmp_total _ _ (ascending-insert_key end_cmp_total _ _ c.requires.indexed.ends_ascend));
  ends = λ at. rw (c.in_ok-put_ends.ensures, c.in_ok-set.ensures.ok)
      (ends_put c.args.id c.args.row c.args.self.now c.requires.indexed c.requires.absent at);
}
