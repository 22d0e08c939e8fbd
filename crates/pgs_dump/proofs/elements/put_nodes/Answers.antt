use Rattle.std.proofs.Common.{◌∙◌, sym}
use Rattle.pgs_base.specs.Pair.{pair_of}
use Rattle.pgs_run_lines.proofs.Together.{exits, item_on, item_stop}
use Rattle.pgs_dump.specs.Parts.{node_lines}
use Rattle.pgs_saved_graph.proofs.Listed.{is_there, one_more, nodes_sorted, node_total}
use Rattle.pgs_dump.proofs.Tells.{node_lines-append, node_lines_one}
use Rattle.pgs_dump.proofs.elements.put_nodes.Goals as goal

pub unreachable-requires : goal.unreachable-requires
unreachable-requires g c =
    let graph = g.G.GraphRead.meaning c.args.graph.now in
    is_there node_total graph.nodes (nodes_sorted graph c.node.ensures.graph) c.as_slice-id-items.result.now (c.as_slice-id-items.ensures ∙ c.in_ok-ids.ensures.ids) c.loop-id.id-index c.loop-id-test.true (record { 0 = 0 })
    (rw c.in_default.is at (sym c.node.ensures.value))

pub returns-in_err-put_node-clause-puts : goal.returns-in_err-put_node-clause-puts
returns-in_err-put_node-clause-puts g c =
    let graph = g.G.GraphRead.meaning c.args.graph.now in
    let more = one_more node_total graph.nodes (nodes_sorted graph c.node.ensures.graph) c.as_slice-id-items.result.now (c.as_slice-id-items.ensures ∙ c.in_ok-ids.ensures.ids) c.loop-id.id-index c.loop-id-test.true (record { 0 = 0 })
    (pair_of c.in-Some.node.labels.now c.in-Some.node.props.now) (sym c.in-Some.ensures.value) in
    exits c.from_residual-in_err-put_node.result c.from_residual-in_err-put_node.ensures.1
    (item_stop node_lines node_lines-append graph.nodes c.loop-id.id-index _ more _ (node_lines_one _) c.loop-id.invariant (c.in_err-put_node.ensures.puts))

pub loop-id-preserved : goal.loop-id-preserved
loop-id-preserved g c =
    let graph = g.G.GraphRead.meaning c.args.graph.now in
    let more = one_more node_total graph.nodes (nodes_sorted graph c.node.ensures.graph) c.as_slice-id-items.result.now (c.as_slice-id-items.ensures ∙ c.in_ok-ids.ensures.ids) c.loop-id.id-index c.loop-id-test.true (record { 0 = 0 })
    (pair_of c.in-Some.node.labels.now c.in-Some.node.props.now) (sym c.in-Some.ensures.value) in
    item_on node_lines node_lines-append graph.nodes c.loop-id.id-index _ more _ (node_lines_one _) c.loop-id.invariant (c.in_ok-put_node.ensures.puts)
