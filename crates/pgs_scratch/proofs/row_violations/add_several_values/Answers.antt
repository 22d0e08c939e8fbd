use Rattle.pgs_scratch.specs.Rows.{several_values}
use Rattle.pgs_scratch.proofs.Found.{found_more}
use Rattle.pgs_scratch.proofs.row_violations.add_several_values.Goals as goal

pub loop-row-preserved : goal.loop-row-preserved
loop-row-preserved c =
    found_more (several_values c.args.number) c.args.found.now.items c.args.rows.now c.loop-row.row-index c.row-item.result c.row-item.is c.loop-row-test.true
    c.loop-row.found.items c.add.new.found.items c.in_ok-violation.violation c.loop-row.invariant c.in_ok-add.ensures c.in_ok-violation.ensures
