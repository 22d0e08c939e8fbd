use Rattle.std.proofs.Common.{◌≡◌, List, ℕ, true, false, sym, subst, ◌∙◌}
use Rattle.pgs_base.specs.declared.limits.Limits.{Limits}
use Rattle.pgs_store.specs.Loads.{Loads}
use Rattle.pgs_store.specs.Stored.{IsLoadedIn}
use Rattle.pgs_world.specs.Moment.{EachSince}
use Rattle.pgs_store.proofs.store.Store.load.Goals as goal

pub returns-clause-answer : goal.returns-clause-answer
returns-clause-answer g c =
    let old = g.W.World.view c.args.world.now in
    let new = g.W.World.view c.create.new.world in
    let made = c.in_ok-guard.ensures in
    subst (λ (l : Limits). Loads c.create.result l c.args.text.now old new) made.limits
    (subst (λ (t : List ℕ). Loads c.create.result c.in_ok-guard.guard.limits t old new) made.text c.create.ensures.answer)

pub returns-clause-early : goal.returns-clause-early
returns-clause-early g c = λ is. absurd (let no : true ≡ false = sym is ∙ c.create.ensures.unrefused in cc)

pub returns-clause-stops : goal.returns-clause-stops
returns-clause-stops g c = λ free settled.
    let old = g.W.World.view c.args.world.now in
    let new = g.W.World.view c.create.new.world in
    let made = c.in_ok-guard.ensures in
    subst (λ (l : Limits). EachSince (IsLoadedIn l c.args.text.now) old new) made.limits
    (subst (λ (t : List ℕ). EachSince (IsLoadedIn c.in_ok-guard.guard.limits t) old new) made.text (c.create.ensures.stops free settled))
