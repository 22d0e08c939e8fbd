use Rattle.std.proofs.Common.{◌≡◌, ◌+◌, ℕ, Bool, true, false, IsTrue, length, Option, Some, inl, refl, sym, ◌∙◌, ap, subst, arith}
use Rattle.std.proofs.lemmas.Result.{err_from_is_err_and}
use Rattle.pgs_journal.specs.declared.journal.Journal.{Journal}
use Rattle.pgs_journal.specs.Format.{Holds, IsFrames}
use Rattle.pgs_store.specs.Checkpoints.{IsRenewed, is_disk_fault}
use Rattle.pgs_store.specs.State.{GuardState}
use Rattle.pgs_store.specs.Stored.{StoreState, StandsOn, IsSavedBy, IsRenewedIn, next_journal, renewed}
use Rattle.pgs_store.specs.World.{StaysBeside}
use Rattle.pgs_world.specs.declared.area.Area.{Area}
use Rattle.pgs_world.specs.Disk.{IsSameBeside}
use Rattle.pgs_world.specs.Moment.{EachSince}
use Rattle.pgs_world.specs.World.{View, other, part}
use Rattle.pgs_store.proofs.Applied.{small_first, same_journal}
use Rattle.pgs_store.proofs.Composed.{none_beside}
use Rattle.pgs_store.proofs.Exits.{never, still_saved, store_of}
use Rattle.pgs_store.proofs.Renewed.{few_before, next_bounded, next_epoch, renewing_stops, alone_renewed, stands_renewed}
use Rattle.pgs_store.proofs.store.Store.checkpoint.Goals as goal

-- what is said of the parts of a store, as it is said of the store
stops_of : (guard : GuardState) (journal : Journal) (failed : Bool) (state : StoreState) (old new : View) → record { guard = guard; journal = journal; failed = failed } ≡ state
    → (StandsOn guard journal old → IsTrue old.honest → IsTrue old.tells_bytes → EachSince (IsRenewedIn guard journal) old new)
    → (state.failed ≡ false → StandsOn state.guard state.journal old)
    → state.failed ≡ false → IsTrue old.honest → IsTrue old.tells_bytes → EachSince (IsRenewedIn state.guard state.journal) old new
stops_of guard journal failed state old new is stops =
    subst (λ (s : StoreState). (s.failed ≡ false → StandsOn s.guard s.journal old) → s.failed ≡ false → IsTrue old.honest → IsTrue old.tells_bytes → EachSince (IsRenewedIn s.guard s.journal) old new) is
    (λ stands whole honest told. stops (stands whole) honest told)

pub checkpoint-requires-clause-frames : goal.checkpoint-requires-clause-frames
checkpoint-requires-clause-frames g c = (renewed c.self.inside.guard, rw c.as_slice.ensures.value c.in_ok-first.ensures.frames)

pub returns-in-Ok-clause-answer : goal.returns-in-Ok-clause-answer
returns-in-Ok-clause-answer g c =
    let guard = c.self.inside.guard in
    let journal = c.self.inside.journal in
    let first = c.as_slice.result.now in
    let vec = c.in_ok-first.first in
    let old = g.W.World.view c.args.world.now in
    let new = g.W.World.view c.checkpoint.new.world in
    let frames : IsFrames (renewed guard) 3 first = rw c.as_slice.ensures.value c.in_ok-first.ensures.frames in
    let few = few_before journal.epoch journal.end guard.commits c.self.invariant.epoch c.self.invariant.end c.self.invariant.most in
    let stands = subst (λ (s : StoreState). s.failed ≡ false → StandsOn s.guard s.journal old) (sym c.self.view_is) c.requires.stands c.if-self.false in
    let end = c.in-Ok.journal.end in
    let is = c.in-Ok.ensures.made.journal in
    let after : c.in-Ok.journal ≡ next_journal journal end =
    same_journal (next_journal journal end) c.in-Ok.journal (ap (λ (j : Journal). j.area) is ∙ c.other.ensures) (ap (λ (j : Journal). j.epoch) is) refl
    (ap (λ (j : Journal). j.next) is) in
    let holds = λ (told : IsTrue old.tells_bytes).
    subst (λ (a : Area). Holds (Some 3) (journal.epoch + 1) (renewed guard) end (part a new.shown)) c.other.ensures
    (subst (λ (n : Option ℕ). Holds n (journal.epoch + 1) (renewed guard) end (part c.other.result new.shown)) (ap (λ (j : Journal). j.next) is)
    (c.in-Ok.ensures.made.holds (renewed guard) frames told)) in
    let same = subst (λ (a : Area). IsSameBeside a old.shown new.shown) c.other.ensures c.checkpoint.ensures.made.beside in
    subst (λ (s : StoreState). (s.failed ≡ false) × (c.self.inside.failed ≡ false) × (guard ≡ s.guard) × IsRenewed s.guard s.journal c.in-Ok.journal (journal.epoch + 1) new) c.self.view_is (
      c.if-self.false,
      c.if-self.false,
      refl,
      record {
        numbered = refl;
        journal = after;
        alone = λ told.
            subst (λ (j : Journal). IsSavedBy guard j (renewed guard) new.shown) (sym after)
            (alone_renewed guard journal end c.facts.ensures.schema c.facts.ensures.guarded c.in_ok-first.ensures.schema c.in_ok-first.ensures.snapshot few (omega (arith, c.in-Ok.ensures.made.within))
            old new stands c.checkpoint.ensures.made.step.passes holds same told);
        stands =
            subst (λ (j : Journal). StandsOn guard j new) (sym after)
            (stands_renewed guard journal end c.facts.ensures.schema c.facts.ensures.guarded c.in_ok-first.ensures.schema c.in_ok-first.ensures.snapshot few (omega (arith, c.in-Ok.ensures.made.within))
            old new stands c.checkpoint.ensures.made.step.passes holds same c.in-Ok.ensures.made.settled);
      },
    )

pub returns-in-Ok-clause-stops : goal.returns-in-Ok-clause-stops
returns-in-Ok-clause-stops g c =
    let old = g.W.World.view c.args.world.now in
    let vec = c.in_ok-first.first in
    stops_of c.self.inside.guard c.self.inside.journal c.self.inside.failed _ old (g.W.World.view c.checkpoint.new.world) c.self.view_is
    (renewing_stops c.self.inside.guard c.self.inside.journal c.other.result c.as_slice.result.now c.facts.ensures.schema c.facts.ensures.guarded c.in_ok-first.ensures.schema c.in_ok-first.ensures.snapshot
    c.self.invariant (small_first c.as_slice.result.now vec.items vec.len vec.cap c.as_slice.ensures.value vec.ok.0 vec.ok.1 vec.small) c.other.ensures
    (rw c.as_slice.ensures.value c.in_ok-first.ensures.frames) c.checkpoint.ensures.made) c.requires.stands

pub returns-clause-stops : goal.returns-clause-stops
returns-clause-stops g c =
    let old = g.W.World.view c.args.world.now in
    let vec = c.in_ok-first.first in
    stops_of c.self.inside.guard c.self.inside.journal c.self.inside.failed _ old (g.W.World.view c.checkpoint.new.world) c.self.view_is
    (renewing_stops c.self.inside.guard c.self.inside.journal c.other.result c.as_slice.result.now c.facts.ensures.schema c.facts.ensures.guarded c.in_ok-first.ensures.schema c.in_ok-first.ensures.snapshot
    c.self.invariant (small_first c.as_slice.result.now vec.items vec.len vec.cap c.as_slice.ensures.value vec.ok.0 vec.ok.1 vec.small) c.other.ensures
    (rw c.as_slice.ensures.value c.in_ok-first.ensures.frames) c.checkpoint.ensures.made) c.requires.stands

-- ---- an earlier call failed

pub returns-then-self-clause-answer : goal.returns-then-self-clause-answer
returns-then-self-clause-answer g c = (subst (λ (s : StoreState). s.failed ≡ true) c.self.view_is c.if-self.true, refl)

pub returns-then-self-clause-early : goal.returns-then-self-clause-early
returns-then-self-clause-early g c = λ early. refl

pub returns-then-self-clause-faults : goal.returns-then-self-clause-faults
returns-then-self-clause-faults g c = refl

pub returns-then-self-clause-last : goal.returns-then-self-clause-last
returns-then-self-clause-last g c = never false refl

pub returns-then-self-clause-stops : goal.returns-then-self-clause-stops
returns-then-self-clause-stops g c = λ whole honest told.
    never c.args.self.now.failed whole (subst (λ (s : StoreState). s.failed ≡ true) c.self.view_is c.if-self.true)

pub returns-then-self-clause-beside : goal.returns-then-self-clause-beside
returns-then-self-clause-beside g c = none_beside (other c.args.self.now.journal.area) (g.W.World.view c.args.world.now) (g.met.W.World.timed c.args.world.now)

-- ---- the last epoch

pub returns-then-self-eq-LAST_EPOCH-clause-early : goal.returns-then-self-eq-LAST_EPOCH-clause-early
returns-then-self-eq-LAST_EPOCH-clause-early g c = λ early. refl

pub returns-then-self-eq-LAST_EPOCH-clause-faults : goal.returns-then-self-eq-LAST_EPOCH-clause-faults
returns-then-self-eq-LAST_EPOCH-clause-faults g c = refl

pub returns-then-self-eq-LAST_EPOCH-clause-last : goal.returns-then-self-eq-LAST_EPOCH-clause-last
returns-then-self-eq-LAST_EPOCH-clause-last g c = never false refl

pub returns-then-self-eq-LAST_EPOCH-clause-stops : goal.returns-then-self-eq-LAST_EPOCH-clause-stops
returns-then-self-eq-LAST_EPOCH-clause-stops g c = λ whole honest told triple left.
    inl
    (still_saved c.args.self.now.guard c.args.self.now.journal (g.W.World.view c.args.world.now) (g.met.W.World.timed c.args.world.now) (c.requires.stands whole) honest told triple left)

pub returns-then-self-eq-LAST_EPOCH-clause-beside : goal.returns-then-self-eq-LAST_EPOCH-clause-beside
returns-then-self-eq-LAST_EPOCH-clause-beside g c = none_beside (other c.args.self.now.journal.area) (g.W.World.view c.args.world.now) (g.met.W.World.timed c.args.world.now)

-- ---- there is no memory

pub returns-in_err-first-clause-answer : goal.returns-in_err-first-clause-answer
returns-in_err-first-clause-answer g c =
    let p = err_from_is_err_and c.from_residual.result c.from_residual.ensures.1 in
    rw (p.1, p.2) (subst (λ (s : StoreState). s.failed ≡ false) c.self.view_is c.if-self.false, refl)

pub returns-in_err-first-clause-early : goal.returns-in_err-first-clause-early
returns-in_err-first-clause-early g c = λ early. refl

pub returns-in_err-first-clause-faults : goal.returns-in_err-first-clause-faults
returns-in_err-first-clause-faults g c = let p = err_from_is_err_and c.from_residual.result c.from_residual.ensures.1 in rw (p.1, p.2) refl

pub returns-in_err-first-clause-last : goal.returns-in_err-first-clause-last
returns-in_err-first-clause-last g c =
    let p = err_from_is_err_and c.from_residual.result c.from_residual.ensures.1 in never (is_disk_fault c.from_residual.result) (rw (p.1, p.2) refl)

pub returns-in_err-first-clause-stops : goal.returns-in_err-first-clause-stops
returns-in_err-first-clause-stops g c = λ whole honest told triple left.
    inl
    (still_saved c.args.self.now.guard c.args.self.now.journal (g.W.World.view c.args.world.now) (g.met.W.World.timed c.args.world.now) (c.requires.stands whole) honest told triple left)

pub returns-in_err-first-clause-beside : goal.returns-in_err-first-clause-beside
returns-in_err-first-clause-beside g c = none_beside (other c.args.self.now.journal.area) (g.W.World.view c.args.world.now) (g.met.W.World.timed c.args.world.now)

-- ---- what the other area is asked

pub checkpoint-requires-clause-epoch : goal.checkpoint-requires-clause-epoch
checkpoint-requires-clause-epoch g c = next_epoch c.self.inside.journal.epoch c.self.invariant.epoch c.if-self-eq-LAST_EPOCH.false

-- ---- the store is renewed

pub invariant_of-self : goal.invariant_of-self
invariant_of-self g c =
    let made = c.in-Ok.ensures.made in
    next_bounded c.self.inside.journal c.in-Ok.journal c.other.result c.self.inside.guard.commits (16 + length c.as_slice.result.now) c.self.invariant c.if-self-eq-LAST_EPOCH.false made.journal made.within made.next_within

pub returns-in-Ok-clause-early : goal.returns-in-Ok-clause-early
returns-in-Ok-clause-early g c = never false refl

pub returns-in-Ok-clause-faults : goal.returns-in-Ok-clause-faults
returns-in-Ok-clause-faults g c = c.in-Ok.ensures.made.step.faults.no_cause

pub returns-in-Ok-clause-last : goal.returns-in-Ok-clause-last
returns-in-Ok-clause-last g c = never false refl

pub returns-in-Ok-clause-beside : goal.returns-in-Ok-clause-beside
returns-in-Ok-clause-beside g c =
    let made = c.checkpoint.ensures.made in
    subst (λ (a : Area). StaysBeside a (g.W.World.view c.args.world.now) (g.W.World.view c.checkpoint.new.world))
    (c.other.ensures ∙ ap (λ (s : StoreState). other s.journal.area) c.self.view_is)
    (record { passes = made.step.passes; shown = made.beside; stops = made.stops_beside; no_put = made.step.no_put })

-- ---- an area failed

pub returns-clause-answer : goal.returns-clause-answer
returns-clause-answer g c =
    (subst (λ (s : StoreState). s.failed ≡ false) c.self.view_is c.if-self.false, ap (λ (s : StoreState). store_of s.guard s.journal true) c.self.view_is)

pub returns-clause-early : goal.returns-clause-early
returns-clause-early g c = never false refl

pub returns-clause-faults : goal.returns-clause-faults
returns-clause-faults g c = c.in-Err.ensures.made.step.faults.cause

pub returns-clause-last : goal.returns-clause-last
returns-clause-last g c = λ failed. c.in-Err.ensures.made.step.faults.last

pub returns-clause-beside : goal.returns-clause-beside
returns-clause-beside g c =
    let made = c.checkpoint.ensures.made in
    subst (λ (a : Area). StaysBeside a (g.W.World.view c.args.world.now) (g.W.World.view c.checkpoint.new.world))
    (c.other.ensures ∙ ap (λ (s : StoreState). other s.journal.area) c.self.view_is)
    (record { passes = made.step.passes; shown = made.beside; stops = made.stops_beside; no_put = made.step.no_put })
