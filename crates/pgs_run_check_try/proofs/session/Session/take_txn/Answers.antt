use Rattle.std.proofs.Common.{◌≡◌, Ok, Err, IfOk, subst}
use Rattle.std.proofs.lemmas.Result.{IfOk-weaker}
use Rattle.pgs_decide.specs.Refused.{IsRejected}
use Rattle.pgs_violation.specs.Staging.{staged}
use Rattle.pgs_violation.specs.Violations.{verdict}
use Rattle.pgs_store.specs.State.{GuardState}
use Rattle.pgs_run_input.specs.Session.{answer_to_txn, decision_on, standard, with_text}
use Rattle.pgs_run_check_try.specs.Causes.{AreStagedCauses}
use Rattle.pgs_run_check_try.specs.State.{SessionState, TellsWith, state_of}
use Rattle.pgs_run_check_try.proofs.Answered.{tells_accepted, tells_rejected}
use Rattle.pgs_run_check_try.proofs.session.Session.take_txn.Goals as goal

pub returns-in-Ok-clause-lines : goal.returns-in-Ok-clause-lines
returns-in-Ok-clause-lines c =
    let inside = c.self.inside in
    let txn = c.args.txn.now in
    let own : SessionState = state_of inside.guard inside.number inside.refused in
    subst
    (λ (s : SessionState). IfOk c.accept.result (λ lines. TellsWith (AreStagedCauses s.text s.schema (staged standard s.standing.graph txn)) s.standing (answer_to_txn (verdict s.schema) s.standing.graph (Ok txn)) lines.items))
    c.self.view_is
    (IfOk-weaker c.accept.result _ _
    (λ lines told. tells_accepted own.text own.schema own.standing txn c.apply_counted.new.guard.graph c.in-Ok.commit lines.items c.in-Ok.ensures.accepted c.in-Ok.ensures.number told) c.accept.ensures.lines)

pub returns-in-Err-Rejected-clause-lines : goal.returns-in-Err-Rejected-clause-lines
returns-in-Err-Rejected-clause-lines c =
    let inside = c.self.inside in
    let txn = c.args.txn.now in
    let own : SessionState = state_of inside.guard inside.number inside.refused in
    let rejection = c.in-Err-Rejected.rejection in
    let rejected : decision_on (verdict own.schema) own.standing.graph txn ≡ Err rejection =
    subst (IsRejected (decision_on (verdict own.schema) own.standing.graph txn)) c.in-Err-Rejected.field-0-is c.in-Err-Rejected.ensures.rejected in
    let told = subst
    (λ (guard : GuardState). let s : SessionState = state_of guard inside.number inside.refused in
    IfOk c.reject.result (λ lines. TellsWith (AreStagedCauses s.text s.schema (staged standard s.standing.graph txn)) s.standing (with_text (Err rejection)) lines.items))
    c.in-Err-Rejected.ensures.unchanged c.reject.ensures.lines in
    subst
    (λ (s : SessionState). IfOk c.reject.result (λ lines. TellsWith (AreStagedCauses s.text s.schema (staged standard s.standing.graph txn)) s.standing (answer_to_txn (verdict s.schema) s.standing.graph (Ok txn)) lines.items))
    c.self.view_is
    (IfOk-weaker c.reject.result _ _ (λ lines own_told. tells_rejected own.text own.schema own.standing txn rejection lines.items rejected own_told) told)
