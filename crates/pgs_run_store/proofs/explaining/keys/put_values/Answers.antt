use Rattle.std.proofs.Common.{map, refl}
use Rattle.pgs_answer.specs.Lines.{key_value_line}
use Rattle.pgs_run_lines.proofs.Together.{exits, at_place, item_on, item_stop}
use Rattle.pgs_run_store.proofs.Tells.{value_lines-append}
use Rattle.pgs_run_store.proofs.explaining.keys.put_values.Goals as goal

pub returns-in_err-put_made-clause-puts : goal.returns-in_err-put_made-clause-puts
returns-in_err-put_made-clause-puts g c =
    let more = at_place c.args.values.now c.loop-tuple.tuple-index c.tuple-item.result c.loop-tuple-test.true c.tuple-item.is in
    exits c.from_residual.result c.from_residual.ensures.1
    (item_stop (map (key_value_line c.args.number)) (value_lines-append c.args.number) c.args.values.now c.loop-tuple.tuple-index c.tuple-item.result more _ refl c.loop-tuple.invariant
    (c.in_err-put_made.ensures.puts (key_value_line c.args.number c.tuple-item.result) c.key_value_line.ensures))

pub loop-tuple-preserved : goal.loop-tuple-preserved
loop-tuple-preserved g c =
    let more = at_place c.args.values.now c.loop-tuple.tuple-index c.tuple-item.result c.loop-tuple-test.true c.tuple-item.is in
    item_on (map (key_value_line c.args.number)) (value_lines-append c.args.number) c.args.values.now c.loop-tuple.tuple-index c.tuple-item.result more _ refl c.loop-tuple.invariant
    (c.in_ok-put_made.ensures.puts (key_value_line c.args.number c.tuple-item.result) c.key_value_line.ensures)
