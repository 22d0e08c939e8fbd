use Rattle.std.proofs.Common.{◌∙◌, refl, sym, subst}
use Rattle.pgs_sessions_machine.specs.declared.event.Event.TheVariants.{Commit}
use Rattle.pgs_sessions_machine.specs.declared.event.Reply.TheVariants.{Stale}
use Rattle.pgs_sessions_machine.specs.Machine.{Session}
use Rattle.pgs_sessions.specs.Committing.{Follows}
use Rattle.pgs_sessions.specs.Costs.{IsWithinTwice, staged_at}
use Rattle.pgs_sessions.specs.Open.{at_number}
use Rattle.pgs_sessions.specs.State.{SessionsState, IsTaken}
use Rattle.pgs_sessions.proofs.Costs.{none_within, session_within}
use Rattle.pgs_sessions.proofs.Stepping.{stale, decided_commit, opening, left}
use Rattle.pgs_sessions.proofs.sessions.Sessions.commit.Goals as goal
use Rattle.pgs_violation.specs.Decision.{decide}
use Rattle.pgs_violation.specs.Violations.{verdict}

pub returns-in-Some-stale-clause-answer : goal.returns-in-Some-stale-clause-answer
returns-in-Some-stale-clause-answer g c =
    let inside = c.self.inside in
    let old : SessionsState = record { guard = inside.guard; nodes = inside.changes.nodes.rows; edges = inside.changes.edges.rows; sessions = inside.sessions } in
    subst (λ (s : SessionsState). IsTaken (Commit c.args.number) s (Stale c.in-Some-stale.elem c.in-Some-stale.commit) (opening old c.close.new.self)) c.self.view_is
    (stale old c.args.number c.close.new.self c.in-Some.session.now c.in-Some-stale.elem c.in-Some-stale.commit (sym c.in-Some.ensures) c.in-Some-stale.ensures c.close.ensures.sessions)

pub returns-clause-answer : goal.returns-clause-answer
returns-clause-answer g c =
    let inside = c.self.inside in
    let old : SessionsState = record { guard = inside.guard; nodes = inside.changes.nodes.rows; edges = inside.changes.edges.rows; sessions = inside.sessions } in
    let follows = subst (λ (s : Session). Follows inside.guard c.decide.new.guard inside.changes c.decide.new.changes c.in_ok-reply.reply (decide inside.guard.limits (verdict inside.guard.schema) inside.guard.graph (record { ops = s.staged })))
    c.session.view_is c.in_ok-reply.ensures.decision in
    subst (λ (s : SessionsState). IsTaken (Commit c.args.number) s c.in_ok-reply.reply (left old c.args.number c.decide.new.guard c.decide.new.changes c.close-open.new.self)) c.self.view_is
    (decided_commit old c.args.number inside.changes c.decide.new.changes refl refl c.decide.new.guard c.close-open.new.self c.in-Some.session.now c.in_ok-reply.reply (sym c.in-Some.ensures) (sym c.in_default-stale.is ∙ c.stale.ensures)
    c.close-open.ensures.sessions follows)

pub returns-in_default-clause-cost : goal.returns-in_default-clause-cost
returns-in_default-clause-cost g c = none_within c.args.self.now.guard (staged_at c.args.self.now c.args.number) c.args.steps.now

pub returns-in-Some-stale-clause-cost : goal.returns-in-Some-stale-clause-cost
returns-in-Some-stale-clause-cost g c = none_within c.args.self.now.guard (staged_at c.args.self.now c.args.number) c.args.steps.now

pub returns-in_err-reply-clause-cost : goal.returns-in_err-reply-clause-cost
returns-in_err-reply-clause-cost g c =
    let inside = c.self.inside in
    let old : SessionsState = record { guard = inside.guard; nodes = inside.changes.nodes.rows; edges = inside.changes.edges.rows; sessions = inside.sessions } in
    let staged = subst (λ (s : Session). IsWithinTwice inside.guard (record { ops = s.staged }) c.args.steps.now c.decide.new.steps) c.session.view_is c.decide.ensures.cost in
    subst (λ (s : SessionsState). IsWithinTwice s.guard (staged_at s c.args.number) c.args.steps.now c.decide.new.steps) c.self.view_is
    (session_within inside.guard (at_number old.sessions c.args.number) c.in-Some.session.now c.args.steps.now c.decide.new.steps (sym c.in-Some.ensures) staged)

pub returns-clause-cost : goal.returns-clause-cost
returns-clause-cost g c =
    let inside = c.self.inside in
    let old : SessionsState = record { guard = inside.guard; nodes = inside.changes.nodes.rows; edges = inside.changes.edges.rows; sessions = inside.sessions } in
    let staged = subst (λ (s : Session). IsWithinTwice inside.guard (record { ops = s.staged }) c.args.steps.now c.decide.new.steps) c.session.view_is c.decide.ensures.cost in
    subst (λ (s : SessionsState). IsWithinTwice s.guard (staged_at s c.args.number) c.args.steps.now c.decide.new.steps) c.self.view_is
    (session_within inside.guard (at_number old.sessions c.args.number) c.in-Some.session.now c.args.steps.now c.decide.new.steps (sym c.in-Some.ensures) staged)
