use Rattle.std.proofs.Common.{sym, subst}
use Rattle.pgs_world_files.specs.declared.cause.OpenFault.{OpenFault}
use Rattle.pgs_world_files.specs.Faults.{IsFault}
use Rattle.pgs_world_files.specs.Faults.HasFailed.{at_name}
use Rattle.pgs_world_files.proofs.Faults.{failed, if_err, not_locked, widened}
use Rattle.pgs_world_files.proofs.system_opening.SystemOpening.open_store_file.Goals as goal

pub returns-in_err-found-clause-fault : goal.returns-in_err-found-clause-fault
returns-in_err-found-clause-fault g c =
    if_err _ c.from_residual-in_err-found.result c.from_residual-in_err-found.ensures.1
    (λ made is. subst (λ (m : OpenFault). IsFault g.S.System.facts c.args.self.now.opened.items c.args.name.now c.args.access m) (sym is) (c.in_err-found.ensures.fault c.args.name.now c.args.access))

pub returns-in_err-lock-clause-fault : goal.returns-in_err-lock-clause-fault
returns-in_err-lock-clause-fault g c =
    if_err _ c.from_residual-in_err-lock.result c.from_residual-in_err-lock.ensures.1
    (λ made is. subst (λ (m : OpenFault). IsFault g.S.System.facts c.args.self.now.opened.items c.args.name.now c.args.access m) (sym is)
    (not_locked g.S.System.facts c.args.name.now c.args.access c.args.self.now.opened.items _ _ _ c.in_err-lock.ensures))

pub returns-in_err-this-clause-fault : goal.returns-in_err-this-clause-fault
returns-in_err-this-clause-fault g c =
    if_err _ c.from_residual-in_err-this.result c.from_residual-in_err-this.ensures.1
    (λ made is. failed g.S.System.facts c.args.name.now c.args.access {error = c.in_err-this.field-0.0} c.args.self.now.opened.items made is (at_name _ c.in_err-this.ensures.lost))

pub returns-in_err-check_use-clause-fault : goal.returns-in_err-check_use-clause-fault
returns-in_err-check_use-clause-fault g c =
    if_err _ c.from_residual-in_err-check_use.result c.from_residual-in_err-check_use.ensures.1
    (λ made is. subst (λ (m : OpenFault). IsFault g.S.System.facts c.args.self.now.opened.items c.args.name.now c.args.access m) (sym is)
    (widened g.S.System.facts c.args.name.now c.args.access c.args.self.now.opened.items _ (c.in_err-check_use.ensures.fault c.args.name.now)))
