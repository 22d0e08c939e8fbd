use Rattle.std.proofs.Common.{sym, subst, Ok}
use Rattle.pgs_sessions_machine.specs.declared.event.Event.{Event}
use Rattle.pgs_sessions.specs.State.{Takes}
use Rattle.pgs_sessions.proofs.Brief.{answers}
use Rattle.pgs_sessions.proofs.sessions.Sessions.step.Goals as goal

pub returns-in-Begin-clause-answer : goal.returns-in-Begin-clause-answer
returns-in-Begin-clause-answer g c =
    answers c.args.event c.args.self.now c.begin.new.self c.begin.result (subst (λ (e : Event). Takes e c.args.self.now c.begin.result c.begin.new.self) (sym c.in-Begin.is) c.begin.ensures)

pub returns-in-Read-clause-answer : goal.returns-in-Read-clause-answer
returns-in-Read-clause-answer g c =
    answers c.args.event c.args.self.now c.read.new.self c.read.result (subst (λ (e : Event). Takes e c.args.self.now c.read.result c.read.new.self) (sym c.in-Read.is) c.read.ensures.answer)

pub returns-in-Stage-clause-answer : goal.returns-in-Stage-clause-answer
returns-in-Stage-clause-answer g c =
    answers c.args.event c.args.self.now c.stage.new.self c.stage.result (subst (λ (e : Event). Takes e c.args.self.now c.stage.result c.stage.new.self) (sym c.in-Stage.is) c.stage.ensures)

pub returns-in-Commit-clause-answer : goal.returns-in-Commit-clause-answer
returns-in-Commit-clause-answer g c =
    answers c.args.event c.args.self.now c.commit.new.self c.commit.result (subst (λ (e : Event). Takes e c.args.self.now c.commit.result c.commit.new.self) (sym c.in-Commit.is) c.commit.ensures.answer)

pub returns-in-Abort-clause-answer : goal.returns-in-Abort-clause-answer
returns-in-Abort-clause-answer g c =
    answers c.args.event c.args.self.now c.abort.new.self (Ok c.abort.result) (subst (λ (e : Event). Takes e c.args.self.now (Ok c.abort.result) c.abort.new.self) (sym c.in-Abort.is) c.abort.ensures)
