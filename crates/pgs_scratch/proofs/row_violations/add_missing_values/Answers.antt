use Rattle.pgs_scratch.specs.Rows.{missing_value}
use Rattle.pgs_scratch.proofs.Found.{found_more}
use Rattle.pgs_scratch.proofs.row_violations.add_missing_values.Goals as goal

pub loop-row-preserved : goal.loop-row-preserved
loop-row-preserved c =
    found_more (missing_value c.args.number) c.args.found.now.items c.args.rows.now c.loop-row.row-index c.row-item.result c.row-item.is c.loop-row-test.true
    c.loop-row.found.items c.add.new.found.items c.missing_value-violation.result c.loop-row.invariant c.in_ok-add.ensures c.missing_value-violation.ensures
