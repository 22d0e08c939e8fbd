use Rattle.pgs_world_files.specs.Faults.HasFailed.{at_found}
use Rattle.pgs_world_files.proofs.Faults.{failed, if_err}
use Rattle.pgs_world_files.proofs.system_opening.SystemOpening.check_new.Goals as goal

pub returns-in_err-found-clause-fault : goal.returns-in_err-found-clause-fault
returns-in_err-found-clause-fault g c =
    if_err _ c.from_residual.result c.from_residual.ensures.1 (λ made is name access. failed g.S.System.facts name access c.args.self.now.opened.items made is (at_found c.in_err-found.ensures))
