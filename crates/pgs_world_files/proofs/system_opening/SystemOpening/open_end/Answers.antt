use Rattle.std.proofs.Common.{sym, subst}
use Rattle.pgs_world_files.specs.declared.access.Access.TheVariants.{Append}
use Rattle.pgs_world_files.specs.declared.feed_cause.FeedOpenFault.{FeedOpenFault}
use Rattle.pgs_world_files.specs.FeedFaults.{IsFeedFault}
use Rattle.pgs_world_files.proofs.Faults.{if_err}
use Rattle.pgs_world_files.proofs.FeedFaults.{from_open}
use Rattle.pgs_world_files.proofs.system_opening.SystemOpening.open_end.Goals as goal

pub returns-in_err-file-clause-fault : goal.returns-in_err-file-clause-fault
returns-in_err-file-clause-fault g c =
    let opened = c.args.self.now.opened.items in
    if_err _ c.from_residual.result c.from_residual.ensures.1
    (λ made is. subst (λ (m : FeedOpenFault). IsFeedFault g.S.System.facts opened c.args.name.now m) (sym is)
    (from_open g.S.System.facts opened c.args.name.now _ (c.in_err-file.ensures.fault opened)))

pub returns-in_err-found-clause-fault : goal.returns-in_err-found-clause-fault
returns-in_err-found-clause-fault g c =
    let opened = c.args.self.now.opened.items in
    if_err _ c.from_residual-in_err-found.result c.from_residual-in_err-found.ensures.1
    (λ made is. subst (λ (m : FeedOpenFault). IsFeedFault g.S.System.facts opened c.args.name.now m) (sym is)
    (from_open g.S.System.facts opened c.args.name.now _ (c.in_err-found.ensures.fault c.args.name.now Append)))

pub returns-in_err-check_streams-clause-fault : goal.returns-in_err-check_streams-clause-fault
returns-in_err-check_streams-clause-fault g c =
    let opened = c.args.self.now.opened.items in
    if_err _ c.from_residual-in_err-check_streams.result c.from_residual-in_err-check_streams.ensures.1
    (λ made is. subst (λ (m : FeedOpenFault). IsFeedFault g.S.System.facts opened c.args.name.now m) (sym is) (c.in_err-check_streams.ensures.fault opened c.args.name.now))

pub returns-in_err-last-clause-fault : goal.returns-in_err-last-clause-fault
returns-in_err-last-clause-fault g c =
    let opened = c.args.self.now.opened.items in
    if_err _ c.from_residual-in_err-last.result c.from_residual-in_err-last.ensures.1
    (λ made is. subst (λ (m : FeedOpenFault). IsFeedFault g.S.System.facts opened c.args.name.now m) (sym is) (c.in_err-last.ensures.fault opened))
