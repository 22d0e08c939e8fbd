use Rattle.std.proofs.Common.{◌≡◌, ℕ, List, [], inl, inr, refl, sym, subst}
use Rattle.std.proofs.lemmas.List.{append-nil}
use Rattle.pgs_run_lines.specs.Pieces.{shown_of}
use Rattle.pgs_run_lines.specs.Replies.{EndsReply}
use Rattle.pgs_run_lines.proofs.Showing.{shows_none}
use Rattle.pgs_world.specs.Disk.{PutsFront}
use Rattle.pgs_world.specs.Moment.{StopsBy}
use Rattle.pgs_run_lines.proofs.reply.put_last.Goals as goal

pub returns-in-Ok-clause-ends : goal.returns-in-Ok-clause-ends
returns-in-Ok-clause-ends g c = λ line is.
    let same : c.in-Ok.line ≡ line = rw c.in-Ok.is at is in
    inl (subst (λ (l : List ℕ). EndsReply l c.args.status g.E.RunStatus.put_failed (g.W.World.view c.args.world.now) c.put_reply.result (g.W.World.view c.put_reply.new.world)) same c.put_reply.ensures.ends)

pub returns-in-Err-clause-ends : goal.returns-in-Err-clause-ends
returns-in-Err-clause-ends g c = λ line is. inr (c.memory.ensures, shows_none (shown_of (g.W.World.view c.args.world.now)), refl)

pub returns-in-Ok-clause-stops : goal.returns-in-Ok-clause-stops
returns-in-Ok-clause-stops g c = λ line is.
    let same : c.in-Ok.line ≡ line = rw c.in-Ok.is at is in
    subst (λ (l : List ℕ). StopsBy (PutsFront l) (g.W.World.view c.args.world.now) (g.W.World.view c.put_reply.new.world)) same c.put_reply.ensures.stops

pub returns-in-Err-clause-stops : goal.returns-in-Err-clause-stops
returns-in-Err-clause-stops g c = λ line is honest d left.
    (d, (g.met.W.World.timed c.args.world.now).only_now d left, record { a = refl; b = refl; front = []; back = line; parts = refl; added = sym (append-nil d.output) })
