use Rattle.std.proofs.Common.{[]}
use Rattle.pgs_world_files.specs.declared.access.Access.TheVariants.{Make}
use Rattle.pgs_world_files.specs.Faults.HasFailed.{at_found, at_head}
use Rattle.pgs_world_files.proofs.Faults.{failed, if_err}
use Rattle.pgs_world_files.proofs.system_opening.check_free.Goals as goal

pub returns-in_err-found-clause-fault : goal.returns-in_err-found-clause-fault
returns-in_err-found-clause-fault g c =
    if_err _ c.from_residual.result c.from_residual.ensures.1 (λ made is name. failed g.S.System.facts name Make [] made is (at_found c.in_err-found.ensures))

pub returns-in_err-count-clause-fault : goal.returns-in_err-count-clause-fault
returns-in_err-count-clause-fault g c =
    if_err _ c.from_residual-in_err-count.result c.from_residual-in_err-count.ensures.1 (λ made is name. failed g.S.System.facts name Make [] made is (at_head c.in_err-count.ensures.gives))
