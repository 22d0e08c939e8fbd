use Rattle.std.proofs.Common.{[], arith}
use Rattle.pgs_resolve.specs.Guard.{type_no}
use Rattle.pgs_resolve_declared.proofs.Walks.{more_kept}
use Rattle.pgs_resolve.proofs.guard.numbers_of.Goals as goal

pub loop-name-preserved : goal.loop-name-preserved
loop-name-preserved c =
    more_kept (type_no c.args.numbering.now) [] c.args.names.now _ _ _ _ (omega arith) c.name-item.is
    c.loop-name.invariant c.in_ok-push_number.ensures
