use Rattle.std.proofs.Common.{◌+◌, ◌∙◌, ap, sym, Some, Ok, arith}
use Rattle.pgs_base.specs.Graph.{edge_at}
use Rattle.pgs_violation.specs.declared.structural.Cause.TheVariants.{NoEdge}
use Rattle.pgs_txn.specs.declared.working.Working.{Working}
use Rattle.pgs_txn.specs.Edits.{edited_edge}
use Rattle.pgs_txn.specs.Rows.{was_put}
use Rattle.pgs_txn.specs.Working.{graph_now}
use Rattle.pgs_txn.proofs.Standing.{edited_edge_from, small_edge_put, taken_change, found_some, edge_put_back, graph_after_edge, stands_after_edge, lists_after_edge}
use Rattle.pgs_txn.proofs.working.Working.edit_edge.Goals as goal

pub put_edge-requires-clause-absent : goal.put_edge-requires-clause-absent
put_edge-requires-clause-absent g c =
    ap was_put (taken_change (g.G.GraphRead.meaning c.args.graph.now) c.args.self.now c.requires c.args.id c.take_edge.new.self.rows c.in_ok-row.ensures.edges)

pub returns : goal.returns
returns g c =
    let m = g.G.GraphRead.meaning c.args.graph.now in
    let w = c.args.self.now in
    let id = c.args.id in
    let next : Working = record { rows = c.put_edge.new.self; cleared = c.take_edge.new.self.cleared; count = c.take_edge.new.self.count } in
    let row = c.in_ok-row.row in
    let new = c.in_ok-edited.edited in
    let put = c.in_ok-put_edge.ensures in
    let edges = edge_put_back m w c.requires id new _ _ c.in_ok-row.ensures.edges put.edges in
    let nodes = c.put_edge.ensures.nodes ∙ c.take_edge.ensures.nodes in
    let edit = c.args.edit.now in
    let there = found_some (NoEdge id) (edge_at (graph_now m w) id) row c.in_ok-row.ensures.row in
    record {
      step = edited_edge_from edit (graph_now m w) id row c.in_ok-row.ensures.row
          ∙ small_edge_put (graph_now m w) id (edited_edge edit row) new c.in_ok-edited.ensures
          ∙ ap Ok (sym (graph_after_edge m w c.requires next put.indexed c.take_edge.ensures.cleared id (Some new) edges nodes));
      stands = stands_after_edge m w c.requires next put.indexed c.take_edge.ensures.cleared id (Some new) edges nodes
          (rw there (ap (λ n. n + 1) c.take_edge.ensures.count));
      lists = lists_after_edge m w c.requires next put.indexed c.take_edge.ensures.cleared id (Some new) edges nodes;
      no_step_back = omega arith;
      one_look = omega arith;
    }
