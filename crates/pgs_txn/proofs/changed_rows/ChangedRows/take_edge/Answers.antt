use Rattle.std.proofs.Common.{◌∙◌, ap, None}
use Rattle.std.specs.Map.{keys_of}
use Rattle.pgs_base.proofs.Ascending.{ascending-insert_entry}
use Rattle.pgs_graph.proofs.Deltas.{edge_cmp_total}
use Rattle.pgs_txn.specs.Rows.{was_put}
use Rattle.pgs_txn.proofs.Ends.{ascending_left, ends_after_take, ends_fewer}
use Rattle.pgs_txn.proofs.changed_rows.ChangedRows.take_edge.Goals as goal

pub returns-clause-indexed : goal.returns-clause-indexed
returns-clause-indexed c = record {
  nodes_ascend = c.requires.nodes_ascend;
  edges_ascend = rw c.in_ok-earlier.ensures.ok (ascending-insert_entry edge_cmp_total c.args.id None c.args.self.now.edges c.requires.edges_ascend);
  ends_ascend = rw c.remove_ends.ensures (ascending_left c.args.id c.in_ok-earlier.earlier (keys_of c.args.self.now.ends) c.requires.ends_ascend);
  ends = λ at. rw (c.remove_ends.ensures, c.in_ok-earlier.ensures.ok)
      (ends_after_take c.args.self.now c.requires c.args.id c.in_ok-earlier.earlier c.in_ok-earlier.ensures.answer at);
}

pub returns-clause-fewer : goal.returns-clause-fewer
returns-clause-fewer c put =
    ends_fewer c.args.self.now c.requires c.args.id c.in_ok-earlier.earlier c.in_ok-earlier.ensures.answer (ap was_put c.in_ok-earlier.ensures.answer ∙ put)
    c.remove_ends.new.ends c.remove_ends.ensures
