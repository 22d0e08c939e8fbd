use Rattle.std.proofs.Common.{refl}
use Rattle.std.proofs.lemmas.List.{take_more}
use Rattle.pgs_run_lines.proofs.Together.{exits, item_on, item_stop}
use Rattle.pgs_run_store.specs.Explaining.{type_lines}
use Rattle.pgs_run_store.proofs.Tells.{type_lines-append}
use Rattle.pgs_run_store.proofs.explaining.types.put_types.Goals as goal

pub returns-in_err-put_type-clause-puts : goal.returns-in_err-put_type-clause-puts
returns-in_err-put_type-clause-puts g c =
    let resolved = c.args.resolved.now in
    exits c.from_residual.result c.from_residual.ensures.1
    (item_stop (type_lines resolved) (type_lines-append resolved) c.args.types.now c.loop-type_no.type_no-index _
    (take_more c.args.types.now c.loop-type_no.type_no-index _ c.loop-type_no-test.true) _ refl c.loop-type_no.invariant c.in_err-put_type.ensures.puts)

pub loop-type_no-preserved : goal.loop-type_no-preserved
loop-type_no-preserved g c =
    let resolved = c.args.resolved.now in
    item_on (type_lines resolved) (type_lines-append resolved) c.args.types.now c.loop-type_no.type_no-index _
    (take_more c.args.types.now c.loop-type_no.type_no-index _ c.loop-type_no-test.true) _ refl c.loop-type_no.invariant c.in_ok-put_type.ensures.puts
