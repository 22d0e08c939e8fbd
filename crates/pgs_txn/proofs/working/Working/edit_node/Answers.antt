use Rattle.std.proofs.Common.{◌+◌, ◌∙◌, ap, sym, Some, Ok, arith}
use Rattle.pgs_base.specs.Graph.{node_at}
use Rattle.pgs_violation.specs.declared.structural.Cause.TheVariants.{NoNode}
use Rattle.pgs_txn.specs.declared.working.Working.{Working}
use Rattle.pgs_txn.specs.Edits.{edited_node}
use Rattle.pgs_txn.specs.Working.{graph_now}
use Rattle.pgs_txn.proofs.Standing.{edited_node_from, small_node_put, found_some, node_put_back, graph_after_node, stands_after_node, lists_after_node}
use Rattle.pgs_txn.proofs.working.Working.edit_node.Goals as goal

pub returns : goal.returns
returns g c =
    let m = g.G.GraphRead.meaning c.args.graph.now in
    let w = c.args.self.now in
    let id = c.args.id in
    let next : Working = record { rows = c.put_node.new.self; cleared = c.take_node.new.self.cleared; count = c.take_node.new.self.count } in
    let row = c.in_ok-row.row in
    let new = c.in_ok-edited.edited in
    let put = c.in_ok-put_node.ensures in
    let nodes = node_put_back m w c.requires id new _ _ c.in_ok-row.ensures.nodes put.nodes in
    let edges = c.put_node.ensures.edges ∙ c.take_node.ensures.edges in
    let edit = c.args.edit.now in
    let there = found_some (NoNode id) (node_at (graph_now m w) id) row c.in_ok-row.ensures.row in
    record {
      step = edited_node_from edit (graph_now m w) id row c.in_ok-row.ensures.row
          ∙ small_node_put (graph_now m w) id (edited_node edit row) new c.in_ok-edited.ensures
          ∙ ap Ok (sym (graph_after_node m w c.requires next put.indexed c.take_node.ensures.cleared id (Some new) nodes edges));
      stands = stands_after_node m w c.requires next put.indexed c.take_node.ensures.cleared id (Some new) nodes edges
          (rw there (ap (λ n. n + 1) c.take_node.ensures.count));
      lists = lists_after_node m w c.requires next put.indexed c.take_node.ensures.cleared id (Some new) nodes edges;
      no_step_back = omega arith;
      one_look = omega arith;
    }
