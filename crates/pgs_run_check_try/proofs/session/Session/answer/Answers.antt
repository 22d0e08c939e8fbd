use Rattle.std.proofs.Common.{◌≡◌, ◌∙◌, Err, sym, subst}
use Rattle.std.proofs.lemmas.Result.{IfOk-weaker, on_ok_weaker}
use Rattle.pgs_run_input.specs.Answers.{txn_answer}
use Rattle.pgs_run_input.specs.TextFaults.{IsFaultOf}
use Rattle.pgs_run_check_try.proofs.Answered.{session_refused, session_txn, tells_refused, tells_txn}
use Rattle.pgs_run_check_try.proofs.session.Session.answer.Goals as goal

pub returns-in-Ok-clause-session : goal.returns-in-Ok-clause-session
returns-in-Ok-clause-session c =
    on_ok_weaker c.take_txn.result (λ is. is ∙ session_txn c.args.self.now c.args.line.now c.in-Ok.txn c.in-Ok.ensures) c.take_txn.ensures.session

pub returns-in-Ok-clause-lines : goal.returns-in-Ok-clause-lines
returns-in-Ok-clause-lines c =
    IfOk-weaker c.take_txn.result _ _ (λ lines told. tells_txn c.args.self.now c.args.line.now c.in-Ok.txn lines.items c.in-Ok.ensures told) c.take_txn.ensures.lines

pub returns-in_ok-causes-in-Err-Refused-clause-session : goal.returns-in_ok-causes-in-Err-Refused-clause-session
returns-in_ok-causes-in-Err-Refused-clause-session c =
    let refused : txn_answer c.args.line.now ≡ Err c.in-Err-Refused.text = subst (IsFaultOf (txn_answer c.args.line.now)) c.in-Err-Refused.field-0-is c.in-Err-Refused.ensures in
    on_ok_weaker c.refuse.result (λ is. is ∙ session_refused c.args.self.now c.args.line.now c.in-Err-Refused.text refused) c.refuse.ensures.session

pub returns-in_ok-causes-in-Err-Refused-clause-lines : goal.returns-in_ok-causes-in-Err-Refused-clause-lines
returns-in_ok-causes-in-Err-Refused-clause-lines c =
    let refused : txn_answer c.args.line.now ≡ Err c.in-Err-Refused.text = subst (IsFaultOf (txn_answer c.args.line.now)) c.in-Err-Refused.field-0-is c.in-Err-Refused.ensures in
    let so : txn_answer c.args.line.now ≡ Err c.as_slice.result.now = subst (λ text. txn_answer c.args.line.now ≡ Err text) (sym c.as_slice.ensures) refused in
    IfOk-weaker c.refuse.result _ _
    (λ lines told. tells_refused c.args.self.now c.args.line.now c.as_slice.result.now c.in_ok-causes-in-Err-Refused.causes lines.items so c.in_ok-causes-in-Err-Refused.ensures told) c.refuse.ensures.lines
