use Rattle.std.proofs.Common.{◌≡◌, Ok, IfErr, OnOk, subst}
use Rattle.pgs_base.specs.declared.limits.Limits.{Limits}
use Rattle.pgs_decide.specs.Refused.{IsRejected}
use Rattle.pgs_violation.specs.Decision.{decide}
use Rattle.pgs_violation.specs.Violations.{verdict}
use Rattle.pgs_run_input.specs.Session.{decision_on}
use Rattle.pgs_run_check_try.proofs.session.apply_counted.Goals as goal

pub returns-clause-accepted : goal.returns-clause-accepted
unfolding decision_on
returns-clause-accepted g c =
    let guard = c.args.guard.now in
    subst (λ (limits : Limits). OnOk c.apply.result (decide limits (verdict guard.schema) guard.graph c.args.txn.now ≡ Ok c.apply.new.self.graph)) c.requires.limits c.apply.ensures.accepted

pub returns-clause-rejected : goal.returns-clause-rejected
unfolding decision_on
returns-clause-rejected g c =
    let guard = c.args.guard.now in
    subst (λ (limits : Limits). IfErr c.apply.result (IsRejected (decide limits (verdict guard.schema) guard.graph c.args.txn.now))) c.requires.limits c.apply.ensures.rejected
