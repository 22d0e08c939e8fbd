use Rattle.std.proofs.Common.{sym, ◌∙◌}
use Rattle.pgs_check.specs.Rows.{found_in}
use Rattle.pgs_check.proofs.Steps.{found_here, passed_more, passed_all}
use Rattle.pgs_check.proofs.rule.first_found.Goals as goal

pub loop-row-preserved : goal.loop-row-preserved
loop-row-preserved c =
    passed_more (found_in c.args.rule c.args.number) c.args.rows.now c.loop-row.row-index c.loop-row.invariant c.row-item.result c.row-item.is c.loop-row-test.true
    (sym c.in_ok-found.ensures ∙ c.in_default.is)

pub returns-in-Some : goal.returns-in-Some
returns-in-Some c =
    found_here (found_in c.args.rule c.args.number) c.args.rows.now c.loop-row.row-index c.loop-row.invariant c.row-item.result c.row-item.is c.loop-row-test.true
    c.in-Some.violation (sym c.in_ok-found.ensures ∙ c.in-Some.is)

pub returns : goal.returns
returns c = passed_all (found_in c.args.rule c.args.number) c.args.rows.now c.loop-row.row-index c.loop-row.invariant c.loop-row-test.false
