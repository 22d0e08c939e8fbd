use Rattle.std.proofs.Common.{sym, subst}
use Rattle.pgs_world_files.specs.declared.feed_cause.FeedOpenFault.{FeedOpenFault}
use Rattle.pgs_world_files.specs.FeedFaults.{IsFeedFault}
use Rattle.pgs_world_files.proofs.Faults.{if_err}
use Rattle.pgs_world_files.proofs.FeedFaults.{from_look}
use Rattle.pgs_world_files.proofs.feed_opening.last_of.Goals as goal

pub returns-in_err-end-clause-fault : goal.returns-in_err-end-clause-fault
returns-in_err-end-clause-fault g c =
    if_err _ c.from_residual.result c.from_residual.ensures.1
    (λ made is opened. subst (λ (m : FeedOpenFault). IsFeedFault g.S.System.facts opened c.args.name.now m) (sym is)
    (from_look g.S.System.facts opened c.args.name.now _ c.in_err-end.ensures.fault))
