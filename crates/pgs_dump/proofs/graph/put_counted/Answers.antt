use Rattle.pgs_run_lines.proofs.Together.{exits, stops_in, result_on}
use Rattle.pgs_dump.specs.Parts.{edge_lines}
use Rattle.pgs_dump.proofs.Tells.{nodes_edges}
use Rattle.pgs_dump.proofs.graph.put_counted.Goals as goal

pub returns-in_err-put_nodes-clause-puts : goal.returns-in_err-put_nodes-clause-puts
returns-in_err-put_nodes-clause-puts g c =
    let graph = g.G.GraphRead.meaning c.args.graph.now in
    rw (← nodes_edges graph)
    (exits c.from_residual.result c.from_residual.ensures.1 (stops_in (edge_lines graph.edges) c.in_err-put_nodes.ensures.puts))

pub returns-clause-puts : goal.returns-clause-puts
returns-clause-puts g c =
    let graph = g.G.GraphRead.meaning c.args.graph.now in
    rw (← nodes_edges graph)
    (result_on _ (edge_lines graph.edges) c.put_edges.result c.in_ok-put_nodes.ensures.puts c.put_edges.ensures.puts)
