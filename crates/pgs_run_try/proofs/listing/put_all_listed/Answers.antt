use Rattle.std.proofs.Common.{map, refl}
use Rattle.pgs_run_lines.proofs.Together.{exits, at_place, item_on, item_stop}
use Rattle.pgs_run_try.specs.Told.{listed_line}
use Rattle.pgs_run_try.proofs.Listed.{listed-append}
use Rattle.pgs_run_try.proofs.listing.put_all_listed.Goals as goal

pub returns-in_err-put_made-clause-puts : goal.returns-in_err-put_made-clause-puts
returns-in_err-put_made-clause-puts g c =
    let more = at_place c.args.found.now c.loop-violation.violation-index c.violation-item.result c.loop-violation-test.true c.violation-item.is in
    exits c.from_residual.result c.from_residual.ensures.1
    (item_stop (map listed_line) listed-append c.args.found.now c.loop-violation.violation-index c.violation-item.result more _ refl c.loop-violation.invariant
    (c.in_err-put_made.ensures.puts (listed_line c.violation-item.result) c.listed_line.ensures))

pub loop-violation-preserved : goal.loop-violation-preserved
loop-violation-preserved g c =
    let more = at_place c.args.found.now c.loop-violation.violation-index c.violation-item.result c.loop-violation-test.true c.violation-item.is in
    item_on (map listed_line) listed-append c.args.found.now c.loop-violation.violation-index c.violation-item.result more _ refl c.loop-violation.invariant
    (c.in_ok-put_made.ensures.puts (listed_line c.violation-item.result) c.listed_line.ensures)
