use Rattle.std.proofs.Common.{map}
use Rattle.pgs_answer.specs.Lines.{key_scope_line, key_value_line}
use Rattle.pgs_run_lines.proofs.Together.{exits, stops_in, result_on}
use Rattle.pgs_run_store.proofs.explaining.keys.put_scope.Goals as goal

pub returns-in_err-put_made-clause-puts : goal.returns-in_err-put_made-clause-puts
returns-in_err-put_made-clause-puts g c =
    exits c.from_residual.result c.from_residual.ensures.1
    (stops_in (map (key_value_line c.args.number) c.args.values.now)
    (c.in_err-put_made.ensures.puts (key_scope_line c.args.number) c.key_scope_line.ensures))

pub returns-clause-puts : goal.returns-clause-puts
returns-clause-puts g c =
    rw (← c.as_slice.ensures.value)
    (result_on _ (map (key_value_line c.args.number) c.as_slice.result.now) c.put_values.result
    (c.in_ok-put_made.ensures.puts (key_scope_line c.args.number) c.key_scope_line.ensures) c.put_values.ensures.puts)
