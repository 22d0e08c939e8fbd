use Rattle.pgs_world_files.specs.declared.access.Access.TheVariants.{Append}
use Rattle.pgs_world_files.specs.Faults.HasFailed.{at_open}
use Rattle.pgs_world_files.proofs.Faults.{failed, if_err}
use Rattle.pgs_world_files.proofs.feed_opening.open_behind.Goals as goal

pub returns-in_err-open-clause-fault : goal.returns-in_err-open-clause-fault
returns-in_err-open-clause-fault g c =
    if_err _ c.from_residual.result c.from_residual.ensures.1
    (λ made is opened. failed g.S.System.facts c.args.name.now Append opened made is (at_open c.in_err-open.ensures tt))
