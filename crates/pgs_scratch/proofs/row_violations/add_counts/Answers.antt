use Rattle.pgs_scratch.specs.Rows.{count_of_row}
use Rattle.pgs_scratch.proofs.Found.{found_more}
use Rattle.pgs_scratch.proofs.row_violations.add_counts.Goals as goal

pub loop-row-preserved : goal.loop-row-preserved
loop-row-preserved c =
    found_more (count_of_row c.args.number c.args.bounds) c.args.found.now.items c.args.rows.now c.loop-row.row-index c.row-item.result c.row-item.is
    c.loop-row-test.true c.loop-row.found.items c.add.new.found.items c.count_of_row-violation.result c.loop-row.invariant c.in_ok-add.ensures
    c.count_of_row-violation.ensures
