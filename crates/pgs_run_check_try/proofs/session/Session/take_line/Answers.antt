use Rattle.std.proofs.Common.{◌∙◌, sym, subst}
use Rattle.std.proofs.lemmas.Result.{IfOk-weaker, on_ok_weaker}
use Rattle.pgs_run_check_try.specs.State.{TellsLine}
use Rattle.pgs_run_check_try.proofs.Answered.{session_blank, session_kept, tells_blank, tells_kept}
use Rattle.pgs_run_check_try.proofs.session.Session.take_line.Goals as goal

pub returns-then-is_blank-clause-session : goal.returns-then-is_blank-clause-session
returns-then-is_blank-clause-session c = session_blank c.args.self.now c.args.line.now (sym c.is_blank.ensures ∙ c.if-is_blank.true)

pub returns-then-is_blank-clause-lines : goal.returns-then-is_blank-clause-lines
returns-then-is_blank-clause-lines c =
    subst (TellsLine c.args.self.now c.args.line.now) (sym c.new.ensures.items) (tells_blank c.args.self.now c.args.line.now (sym c.is_blank.ensures ∙ c.if-is_blank.true))

pub returns-clause-session : goal.returns-clause-session
returns-clause-session c =
    on_ok_weaker c.answer.result (λ is. is ∙ session_kept c.args.self.now c.args.line.now (sym c.is_blank.ensures ∙ c.if-is_blank.false)) c.answer.ensures.session

pub returns-clause-lines : goal.returns-clause-lines
returns-clause-lines c =
    IfOk-weaker c.answer.result _ _ (λ lines told. tells_kept c.args.self.now c.args.line.now lines.items (sym c.is_blank.ensures ∙ c.if-is_blank.false) told) c.answer.ensures.lines
