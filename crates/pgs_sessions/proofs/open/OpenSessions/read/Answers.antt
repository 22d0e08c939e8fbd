use Rattle.std.proofs.Common.{◌≡◌, ◌∙◌, ℕ, List, subst}
use Rattle.pgs_sessions_machine.specs.Machine.{Session}
use Rattle.pgs_sessions.specs.Open.{reading, changed_at}
use Rattle.pgs_sessions.proofs.Entries.{changed, unchanged, on_err}
use Rattle.pgs_sessions.proofs.open.OpenSessions.read.Goals as goal

pub returns-clause-ok : goal.returns-clause-ok
returns-clause-ok c =
    subst (λ (es : List (ℕ × Session)). (c.get_mut.follows.lender c.read.new.self).entries ≡ changed_at (reading c.args.elem) es c.args.number) c.self.view_is
    (changed (reading c.args.elem) c.self.inside.sessions.entries c.args.number c.in-Some.session.now c.read.new.self _ c.in-Some.ensures.ordered c.in-Some.ensures.value c.in_ok-read.ensures.ok
    (c.get_mut.follows.holds c.read.new.self).0)

pub returns-in_err-read-clause-err : goal.returns-in_err-read-clause-err
returns-in_err-read-clause-err c =
    on_err c.from_residual.result _
    (unchanged c.self.inside.sessions.entries c.args.number c.in-Some.session.now c.read.new.self _ c.in-Some.ensures.value c.in_err-read.ensures.err (c.get_mut.follows.holds c.read.new.self).0
    ∙ c.self.view_is)
