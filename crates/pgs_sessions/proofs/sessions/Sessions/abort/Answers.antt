use Rattle.std.proofs.Common.{subst}
use Rattle.pgs_sessions_machine.specs.declared.event.Event.TheVariants.{Abort}
use Rattle.pgs_sessions_machine.specs.declared.event.Reply.TheVariants.{NoSession}
use Rattle.pgs_sessions.specs.State.{SessionsState, IsTaken}
use Rattle.pgs_sessions.proofs.Stepping.{not_aborted, opening}
use Rattle.pgs_sessions.proofs.sessions.Sessions.abort.Goals as goal

pub returns-then-not-close : goal.returns-then-not-close
returns-then-not-close c =
    let inside = c.self.inside in
    let old : SessionsState = record { guard = inside.guard; nodes = inside.changes.nodes.rows; edges = inside.changes.edges.rows; sessions = inside.sessions } in
    subst (λ (s : SessionsState). IsTaken (Abort c.args.number) s NoSession (opening old c.close.new.self)) c.self.view_is
    (not_aborted old c.args.number c.close.new.self c.close.result c.close.ensures.answer c.if-not-close.true c.close.ensures.sessions)
