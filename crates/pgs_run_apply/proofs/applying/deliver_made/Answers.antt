use Rattle.std.proofs.Common.{◌≡◌, ◌∙◌, ◌∷◌, [], inl, inr, ℕ, List, refl, subst}
use Rattle.pgs_feed.specs.Deliveries.{IsDelivered, kind_of}
use Rattle.pgs_feed.specs.Given.{AreGiven}
use Rattle.pgs_feed.proofs.Given.{given_line, given_unfed}
use Rattle.pgs_run_apply.proofs.applying.deliver_made.Goals as goal

pub returns-in-Some-clause-given : goal.returns-in-Some-clause-given
returns-in-Some-clause-given g c = λ line is.
    let before = g.L.Feeds.places c.args.feeds.now in
    let after = g.L.Feeds.places c.give.new.self in
    let same : c.in-Some.line ≡ line = rw c.in-Some.is at is in
    subst (λ (l : List ℕ). AreGiven (l ∷ []) before after) (c.as_slice.ensures ∙ same) (given_line c.as_slice.result.now before after c.give.ensures.delivers)

pub returns-in-Some-clause-delivered : goal.returns-in-Some-clause-delivered
returns-in-Some-clause-delivered g c = λ line is.
    let same : c.in-Some.line ≡ line = rw c.in-Some.is at is in
    subst (λ (l : List ℕ). IsDelivered (kind_of g.L.Feeds.places g.L.Feeds.delivered) c.args.feeds.now (record { line = l; puts = (g.W.World.view c.args.world.now).puts }) c.give.new.self)
    (c.as_slice.ensures ∙ same) (inl c.give.ensures.delivered)

pub returns-in-None-clause-given : goal.returns-in-None-clause-given
returns-in-None-clause-given g c = λ line is. given_unfed (line ∷ []) (g.L.Feeds.places c.args.feeds.now) (rw c.in-None.is at is)

pub returns-in-None-clause-delivered : goal.returns-in-None-clause-delivered
returns-in-None-clause-delivered g c = λ line is. inr (rw c.in-None.is at is, refl)
