use Rattle.std.proofs.Common.{◌∙◌, sym, arith}
use Rattle.pgs_saved_graph.proofs.Listed.{is_there, one_more, edges_sorted, edge_total}
use Rattle.pgs_saved_graph.proofs.rows.edge_rows.Goals as goal

pub unreachable-requires : goal.unreachable-requires
unreachable-requires g c =
    let graph = g.G.GraphRead.meaning c.args.graph.now in
    is_there edge_total graph.edges (edges_sorted graph c.edge.ensures.graph) c.as_slice-id-items.result.now (c.as_slice-id-items.ensures ∙ c.in_ok-ids.ensures.ids) c.loop-id.id-index c.loop-id-test.true (record { 0 = 0 })
    (rw c.in_default.is at (sym c.edge.ensures.value))

pub loop-id-preserved : goal.loop-id-preserved
loop-id-preserved g c =
    let graph = g.G.GraphRead.meaning c.args.graph.now in
    let longer = one_more edge_total graph.edges (edges_sorted graph c.edge.ensures.graph) c.as_slice-id-items.result.now (c.as_slice-id-items.ensures ∙ c.in_ok-ids.ensures.ids) c.loop-id.id-index c.loop-id-test.true (record { 0 = 0 }) c.in_ok-copy_edge.field-0
    (rw c.in_ok-copy_edge.ensures (sym c.in-Some.ensures.value)) in
    record {
      so_far = rw (c.in_ok-push.ensures.items, c.loop-id.invariant.so_far) (sym longer);
      no_step_back = omega (arith, c.edge.ensures.tick, c.loop-id.invariant.no_step_back);
    }
