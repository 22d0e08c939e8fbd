use Rattle.std.proofs.Common.{[]}
use Rattle.pgs_resolve_declared.specs.Refused.{uses_in}
use Rattle.pgs_resolve_declared.proofs.Walks.{more_of, all_of}
use Rattle.pgs_resolve_declared.proofs.kinds.all_uses.Goals as goal

pub loop-statement-preserved : goal.loop-statement-preserved
loop-statement-preserved c =
    more_of uses_in [] c.as_slice-statement-items.result.now c.loop-statement.statement-index c.statement-item.result c.loop-statement.uses.items c.use_statement.new.uses.items
    c.loop-statement-test.true c.statement-item.is c.loop-statement.invariant c.in_ok-use_statement.ensures

pub returns : goal.returns
returns c =
    all_of uses_in [] c.as_slice-statement-items.result.now c.args.script.now.statements c.loop-statement.statement-index c.loop-statement.uses.items
    c.loop-statement-test.false c.as_slice-statement-items.ensures c.loop-statement.invariant
