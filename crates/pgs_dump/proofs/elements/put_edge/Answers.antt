use Rattle.std.proofs.Common.{[]}
use Rattle.pgs_base.specs.declared.element.Elem.TheVariants as elems
use Rattle.pgs_graph.specs.declared.operation.Op.TheVariants.{AddEdge}
use Rattle.pgs_run_lines.proofs.Together.{exits, stops_in, result_on}
use Rattle.pgs_dump.specs.Lines.{op_line}
use Rattle.pgs_dump.specs.Parts.{set_lines}
use Rattle.pgs_dump.proofs.elements.put_edge.Goals as goal

pub returns-in_err-put_made-clause-puts : goal.returns-in_err-put_made-clause-puts
returns-in_err-put_made-clause-puts g c =
    exits c.from_residual.result c.from_residual.ensures.1
    (stops_in (set_lines (elems.Edge c.args.id) c.args.edge.now.props.now)
    (c.in_err-put_made.ensures.puts (op_line (AddEdge c.args.id c.args.edge.now.source c.args.edge.now.target c.args.edge.now.labels.now [])) c.add_edge_line.ensures))

pub returns-clause-puts : goal.returns-clause-puts
returns-clause-puts g c =
    rw (← c.as_slice.ensures.value)
    (result_on _ (set_lines (elems.Edge c.args.id) c.as_slice.result.now) c.put_properties.result
    (c.in_ok-put_made.ensures.puts (op_line (AddEdge c.args.id c.args.edge.now.source c.args.edge.now.target c.args.edge.now.labels.now [])) c.add_edge_line.ensures) c.put_properties.ensures.puts)
