-- What is left, and what the feeds took, where a run did nothing but read.
use Rattle.std.proofs.Common.{◌≡◌, ◌⊎◌, inl, inr, ⊎_elim, ℕ, List, [], Option, IsTrue, refl, sym, ap, subst, ◌∙◌}
use Rattle.std.proofs.lemmas.List.{append-nil}
use Rattle.pgs_feed.specs.Places.{Place, lost_count}
use Rattle.pgs_feed.proofs.Given.{given_none}
use Rattle.pgs_run_lines.specs.Pieces.{Shown, ShowsAll, shown_of}
use Rattle.pgs_run_lines.proofs.Showing.{shows_none}
use Rattle.pgs_snapshot.specs.Choice.{chosen_area, chosen_epoch}
use Rattle.pgs_snapshot.specs.Saved.{saved}
use Rattle.pgs_world.specs.Moment.{IsTimed, IsQuiet, IsSettled, MakesNoPut, EachSince}
use Rattle.pgs_world.specs.World.{View, Triple, other}
use Rattle.pgs_world.proofs.Moments.{each_quiet, passes_none, quiet_none}
use Rattle.pgs_command.specs.declared.status.Status.{Status}
use Rattle.pgs_command.specs.declared.status.Status.TheVariants.{DiskFault, Memory}
use Rattle.pgs_command.specs.Images.{KeepsImages}
use Rattle.pgs_run_input.specs.Session.{Standing, standard}
use Rattle.pgs_command.proofs.Images.{area_none, each_images, images_none}
use Rattle.pgs_run_store.specs.Refusing.{SavedStore}
use Rattle.pgs_run_store.proofs.Conforming.{saved_conforms}
use Rattle.pgs_run_store.proofs.Shown.{shown_quiet}
use Rattle.pgs_run_apply.specs.Giving.{IsGivenBy}
use Rattle.pgs_run_apply.specs.Leaving.{LeavesApplied, FeedsApplied}
use Rattle.pgs_run_apply.specs.Run.{Saves, SavesAt, SavesOn, IsAppliedAt, IsDecided, IsGrown, IsPutBy}
use Rattle.pgs_run_apply.specs.Told.{start, after, all_lines}

-- ---- what is saved

-- the same images save the same
pub saves_same : (it : SavedStore) (at : Standing) (triple same : Triple) → same.a ≡ triple.a → same.b ≡ triple.b → SavesAt it at triple → SavesAt it at same
saves_same it at triple same a b saves = record {
  saves = ap (λ (x : List ℕ). saved standard x same.b) a ∙ ap (λ (x : List ℕ). saved standard triple.a x) b ∙ saves.saves;
  conforms = saves.conforms;
}

pub saves_start : (it : SavedStore) (triple : Triple) → Saves it triple → SavesAt it (start it) triple
saves_start it triple known =
    record { saves = known.saves; conforms = saved_conforms standard triple.a triple.b it.text it.commits it.graph it.schema known.saves known.schema }

-- the same images save the same, and choose the same
pub saves_on_same : (it : SavedStore) (at : Standing) (was triple same : Triple) → same.a ≡ triple.a → same.b ≡ triple.b → SavesOn it at was triple → SavesOn it at was same
saves_on_same it at was triple same a b saves = record {
  saves = saves_same it at triple same a b saves.saves;
  area = ap (λ (x : List ℕ). chosen_area x same.b) a ∙ ap (λ (x : List ℕ). chosen_area triple.a x) b ∙ saves.area;
  epoch = ap (λ (x : List ℕ). chosen_epoch x same.b) a ∙ ap (λ (x : List ℕ). chosen_epoch triple.a x) b ∙ saves.epoch;
}

-- at the start
saves_on_start : (it : SavedStore) (was triple : Triple) → triple.a ≡ was.a → triple.b ≡ was.b → Saves it was → SavesOn it (start it) was triple
saves_on_start it was triple a b known =
    saves_on_same it (start it) was was triple a b (record { saves = saves_start it was known; area = refl; epoch = refl })

-- a run that did nothing but read, and ended with one of these statuses
pub decided_start : (it : SavedStore) (input : List ℕ) (lost : ℕ) (old new : View) (places : List Place) (status : Status) → (status ≡ DiskFault) ⊎ (status ≡ Memory) → IsQuiet old new → MakesNoPut old new
    → Saves it old.shown → IsDecided it input lost old new places places status
decided_start it input lost old new places status is quiet none known = record {
  until = [];
  later = all_lines input;
  parts = refl;
  put = ⊎_elim (λ fault. subst (λ (s : Status). IsPutBy it [] (all_lines input) lost (shown_of old) (shown_of new) s) (sym fault) nothing)
      (λ memory. subst (λ (s : Status). IsPutBy it [] (all_lines input) lost (shown_of old) (shown_of new) s) (sym memory) nothing) is;
  given = given_none places;
  saves = λ _. saves_on_start it old.shown new.shown (ap (λ (t : Triple). t.a) quiet.shown) (ap (λ (t : Triple). t.b) quiet.shown) known;
}
  where
    nothing : ShowsAll (shown_of old) [] (shown_of new)
    nothing = subst (λ (s : Shown). ShowsAll (shown_of old) [] s) (sym (shown_quiet old new quiet none)) (shows_none (shown_of old))

-- ---- images alone

pub grown_same : (it : SavedStore) (was d c : Triple) → c.a ≡ d.a → c.b ≡ d.b → IsGrown it was d → IsGrown it was c
grown_same it was d c a b grown = record { lines = grown.lines; saves = saves_on_same it (after it grown.lines) was d c a b grown.saves }

pub grown_kept : (old new : View) (it : SavedStore) → IsSettled old → KeepsImages old new → Saves it old.shown → EachSince (IsGrown it old.shown) old new
grown_kept old new it settled kept known =
    each_images old new (IsGrown it old.shown) settled.honest (grown_same it old.shown) kept
    (λ c left. record { lines = []; saves = saves_on_start it old.shown c (settled.a c left) (settled.b c left) known })

-- ---- what a stop leaves

-- before the first line
pub quiet_applied : (old new : View) (it : SavedStore) (input : List ℕ) (lost : ℕ) → IsTimed old → IsTrue old.tells_output → IsSettled old → IsQuiet old new → Saves it old.shown → EachSince (IsAppliedAt old.shown it input lost) old new
quiet_applied old new it input lost timed tells settled quiet known =
    each_quiet old new (IsAppliedAt old.shown it input lost) settled.honest quiet
    (λ c left.
    let on = saves_on_start it old.shown c (settled.a c left) (settled.b c left) known in
    record {
      until = [];
      later = all_lines input;
      parts = refl;
      front = [];
      out = timed.output settled.honest tells c left ∙ sym (append-nil old.shown.output);
      state = inl (refl, on.saves);
      area = on.area;
      epoch = on.epoch;
    })

-- ---- where nothing was done

pub applied_none : (left : Option (List ℕ)) (lost : ℕ) (view : View) → IsTimed view → LeavesApplied left lost view view
applied_none left lost view timed = record {
  passes = passes_none view timed;
  stops = λ input it is saves tells settled. quiet_applied view view it input lost timed tells settled (quiet_none view timed) saves;
  grows = λ it saves settled. grown_kept view view it settled (images_none view timed) saves;
  unsaved = λ told none. images_none view timed;
  beside = λ tells area is. area_none (other area) view timed;
}

-- nothing is given
pub given_start : (it : SavedStore) (input : List ℕ) (lost : ℕ) (old new : View) (status : Status) → (status ≡ DiskFault) ⊎ (status ≡ Memory) → IsQuiet old new → MakesNoPut old new → IsGivenBy it input lost old new status []
given_start it input lost old new status is quiet none = record {
  until = [];
  later = all_lines input;
  parts = refl;
  put = ⊎_elim (λ fault. subst (λ (s : Status). IsPutBy it [] (all_lines input) lost (shown_of old) (shown_of new) s) (sym fault) nothing)
      (λ memory. subst (λ (s : Status). IsPutBy it [] (all_lines input) lost (shown_of old) (shown_of new) s) (sym memory) nothing) is;
  is = refl;
}
  where
    nothing : ShowsAll (shown_of old) [] (shown_of new)
    nothing = subst (λ (s : Shown). ShowsAll (shown_of old) [] s) (sym (shown_quiet old new quiet none)) (shows_none (shown_of old))

pub applied_feeds : (left : Option (List ℕ)) (view : View) (places : List Place) → IsTimed view → FeedsApplied left view view places places Memory
applied_feeds left view places timed = record {
  decided = λ told input it is saves.
      decided_start it input (lost_count places) view view places Memory (inr refl) (quiet_none view timed) (record { puts = refl; put_faults = refl }) saves;
  unsaved = λ told none. refl;
}
