use Rattle.std.proofs.Common.{◌∙◌, sym}
use Rattle.pgs_graph.specs.Reads.{edge_row}
use Rattle.pgs_run_lines.proofs.Together.{exits, item_on, item_stop}
use Rattle.pgs_dump.specs.Parts.{edge_lines}
use Rattle.pgs_saved_graph.proofs.Listed.{is_there, one_more, edges_sorted, edge_total}
use Rattle.pgs_dump.proofs.Tells.{edge_lines-append, edge_lines_one}
use Rattle.pgs_dump.proofs.elements.put_edges.Goals as goal

pub unreachable-requires : goal.unreachable-requires
unreachable-requires g c =
    let graph = g.G.GraphRead.meaning c.args.graph.now in
    is_there edge_total graph.edges (edges_sorted graph c.edge.ensures.graph) c.as_slice-id-items.result.now (c.as_slice-id-items.ensures ∙ c.in_ok-ids.ensures.ids) c.loop-id.id-index c.loop-id-test.true (record { 0 = 0 })
    (rw c.in_default.is at (sym c.edge.ensures.value))

pub returns-in_err-put_edge-clause-puts : goal.returns-in_err-put_edge-clause-puts
returns-in_err-put_edge-clause-puts g c =
    let graph = g.G.GraphRead.meaning c.args.graph.now in
    let more = one_more edge_total graph.edges (edges_sorted graph c.edge.ensures.graph) c.as_slice-id-items.result.now (c.as_slice-id-items.ensures ∙ c.in_ok-ids.ensures.ids) c.loop-id.id-index c.loop-id-test.true (record { 0 = 0 })
    (edge_row c.in-Some.edge.source c.in-Some.edge.target c.in-Some.edge.labels.now c.in-Some.edge.props.now) (sym c.in-Some.ensures.value) in
    exits c.from_residual-in_err-put_edge.result c.from_residual-in_err-put_edge.ensures.1
    (item_stop edge_lines edge_lines-append graph.edges c.loop-id.id-index _ more _ (edge_lines_one _) c.loop-id.invariant (c.in_err-put_edge.ensures.puts))

pub loop-id-preserved : goal.loop-id-preserved
loop-id-preserved g c =
    let graph = g.G.GraphRead.meaning c.args.graph.now in
    let more = one_more edge_total graph.edges (edges_sorted graph c.edge.ensures.graph) c.as_slice-id-items.result.now (c.as_slice-id-items.ensures ∙ c.in_ok-ids.ensures.ids) c.loop-id.id-index c.loop-id-test.true (record { 0 = 0 })
    (edge_row c.in-Some.edge.source c.in-Some.edge.target c.in-Some.edge.labels.now c.in-Some.edge.props.now) (sym c.in-Some.ensures.value) in
    item_on edge_lines edge_lines-append graph.edges c.loop-id.id-index _ more _ (edge_lines_one _) c.loop-id.invariant (c.in_ok-put_edge.ensures.puts)
