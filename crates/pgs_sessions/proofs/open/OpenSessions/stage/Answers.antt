use Rattle.std.proofs.Common.{◌≡◌, ◌∙◌, ℕ, List, subst}
use Rattle.pgs_sessions_machine.specs.Machine.{Session}
use Rattle.pgs_sessions.specs.Open.{staging, changed_at}
use Rattle.pgs_sessions.proofs.Entries.{changed, unchanged, on_err}
use Rattle.pgs_sessions.proofs.open.OpenSessions.stage.Goals as goal

pub returns-clause-ok : goal.returns-clause-ok
returns-clause-ok c =
    subst (λ (es : List (ℕ × Session)). (c.get_mut.follows.lender c.stage.new.self).entries ≡ changed_at (staging c.args.txn.ops) es c.args.number) c.self.view_is
    (changed (staging c.args.txn.ops) c.self.inside.sessions.entries c.args.number c.in-Some.session.now c.stage.new.self _ c.in-Some.ensures.ordered c.in-Some.ensures.value c.in_ok-count.ensures.ok
    (c.get_mut.follows.holds c.stage.new.self).0)

pub returns-in_err-count-clause-err : goal.returns-in_err-count-clause-err
returns-in_err-count-clause-err c =
    on_err c.from_residual.result _
    (unchanged c.self.inside.sessions.entries c.args.number c.in-Some.session.now c.stage.new.self _ c.in-Some.ensures.value c.in_err-count.ensures.err (c.get_mut.follows.holds c.stage.new.self).0
    ∙ c.self.view_is)
