use Rattle.pgs_world_files.specs.FeedFaults.FailsToLook.{at_found}
use Rattle.pgs_world_files.proofs.Faults.{if_err}
use Rattle.pgs_world_files.proofs.FeedFaults.{looks}
use Rattle.pgs_world_files.proofs.feed_opening.look.Goals as goal

pub returns-in_err-found-clause-fault : goal.returns-in_err-found-clause-fault
returns-in_err-found-clause-fault g c =
    if_err _ c.from_residual.result c.from_residual.ensures.1 (λ made is. looks g.S.System.facts c.args.name.now made (at_found c.in_err-found.ensures))
