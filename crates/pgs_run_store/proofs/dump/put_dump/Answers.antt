use Rattle.std.proofs.Common.{◌∷◌}
use Rattle.pgs_answer.specs.Lines.{schema_line, separator_line}
use Rattle.pgs_run_lines.proofs.Together.{exits, puts_on, stops_in, stops_on, result_on}
use Rattle.pgs_dump.specs.Lines.{graph_lines}
use Rattle.pgs_run_store.proofs.dump.put_dump.Goals as goal

pub returns-in_err-put_made-clause-puts : goal.returns-in_err-put_made-clause-puts
returns-in_err-put_made-clause-puts g c =
    rw (← c.schema_text.ensures.text)
    (exits c.from_residual.result c.from_residual.ensures.1
    (stops_in (separator_line ∷ graph_lines c.args.store.now.guard.graph)
    (c.in_err-put_made.ensures.puts (schema_line c.schema_text.result.now) c.schema_line.ensures)))

pub returns-in_err-put_made-2-clause-puts : goal.returns-in_err-put_made-2-clause-puts
returns-in_err-put_made-2-clause-puts g c =
    rw (← c.schema_text.ensures.text)
    (exits c.from_residual-in_err-put_made-2.result c.from_residual-in_err-put_made-2.ensures.1
    (stops_in (graph_lines c.args.store.now.guard.graph)
    (stops_on (c.in_ok-put_made.ensures.puts (schema_line c.schema_text.result.now) c.schema_line.ensures)
    (c.in_err-put_made-2.ensures.puts separator_line c.separator_line.ensures))))

pub returns-clause-puts : goal.returns-clause-puts
returns-clause-puts g c =
    rw (← c.schema_text.ensures.text, ← c.graph.ensures.graph)
    (result_on _ (graph_lines c.graph.result.now.graph) c.put_graph.result
    (puts_on (c.in_ok-put_made.ensures.puts (schema_line c.schema_text.result.now) c.schema_line.ensures)
    (c.in_ok-put_made-2.ensures.puts separator_line c.separator_line.ensures)) c.put_graph.ensures.puts)
