use Rattle.std.proofs.Common.{◌∙◌, ap}
use Rattle.pgs_base.specs.Graph.{edge_at}
use Rattle.pgs_txn.specs.Rows.{edge_change, has_end}
use Rattle.pgs_txn.proofs.Standing.{edge_now}
use Rattle.pgs_txn.proofs.Removed.{only_then, only_dropped_changed, put_stands, put_changed}
use Rattle.pgs_txn.proofs.working.Working.drop_put_edges.Goals as goal

pub loop-edge-preserved : goal.loop-edge-preserved
loop-edge-preserved c = record {
  indexed = c.in_ok-drop_edge.ensures.indexed;
  only = λ g stands.
      let before = c.loop-edge.invariant.only g stands in
      let w = c.loop-edge.self in
      let id = c.args.id in
      let edge = c.in-Some.edge in
      let put = c.in-Some.ensures.0 in
      only_then g id c.args.self.now w c.drop_edge.new.self before
      (only_dropped_changed g w c.drop_edge.new.self before.stands edge c.in_ok-drop_edge.ensures.edges c.drop_edge.ensures.nodes c.drop_edge.ensures.cleared
      c.in_ok-drop_edge.ensures.count c.in_ok-drop_edge.ensures.indexed id
      (ap (has_end id) (edge_now g w before.stands edge) ∙ put_stands id (edge_change w.rows edge) (edge_at g edge) put)
      (put_changed id (edge_change w.rows edge) put));
}
