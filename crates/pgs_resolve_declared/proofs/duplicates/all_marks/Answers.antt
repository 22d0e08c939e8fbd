use Rattle.std.proofs.Common.{[]}
use Rattle.pgs_resolve_declared.specs.Refused.{marks_of}
use Rattle.pgs_resolve_declared.proofs.Walks.{more_of, all_of}
use Rattle.pgs_resolve_declared.proofs.duplicates.all_marks.Goals as goal

pub loop-statement-preserved : goal.loop-statement-preserved
loop-statement-preserved c =
    more_of marks_of [] c.as_slice-statement-items.result.now c.loop-statement.statement-index c.statement-item.result c.loop-statement.marks.items c.mark_statement.new.marks.items
    c.loop-statement-test.true c.statement-item.is c.loop-statement.invariant c.in_ok-mark_statement.ensures

pub returns : goal.returns
returns c =
    all_of marks_of [] c.as_slice-statement-items.result.now c.args.script.now.statements c.loop-statement.statement-index c.loop-statement.marks.items
    c.loop-statement-test.false c.as_slice-statement-items.ensures c.loop-statement.invariant
