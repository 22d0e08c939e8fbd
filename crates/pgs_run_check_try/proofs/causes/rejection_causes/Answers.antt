use Rattle.std.proofs.Common.{◌≡◌, Err, sym, subst}
use Rattle.pgs_violation.specs.declared.rejection.Rejection.{Rejection}
use Rattle.pgs_violation.specs.Staging.{staged}
use Rattle.pgs_violation.specs.Violations.{verdict}
use Rattle.pgs_run_input.specs.Session.{decision_on, standard}
use Rattle.pgs_run_check_try.specs.Causes.{AreStagedCauses}
use Rattle.pgs_run_check_try.proofs.Decided.{none_unstaged}
use Rattle.pgs_run_check_try.proofs.causes.rejection_causes.Goals as goal

pub returns-in-Structural : goal.returns-in-Structural
returns-in-Structural c =
    let guard = c.args.guard.now in
    subst (AreStagedCauses guard.text guard.schema (staged standard guard.graph c.args.txn.now)) (sym c.new.ensures)
    (none_unstaged guard.text guard.schema guard.graph c.args.txn.now c.in-Structural.field-0
    (subst (λ (rejection : Rejection). decision_on (verdict guard.schema) guard.graph c.args.txn.now ≡ Err rejection) c.in-Structural.is c.requires))
