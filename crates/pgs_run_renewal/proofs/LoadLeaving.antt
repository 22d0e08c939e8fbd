-- What is left where both areas are what they were, and of an input by what is left of its front.
use Rattle.std.proofs.Common.{◌≡◌, inl, ℕ, IsTrue, List, [], Option, Some, Result, Ok, refl, sym, ap, subst, ◌∙◌}
use Rattle.pgs_run_lines.specs.Pieces.{Shown, ShowsAll, shown_of}
use Rattle.pgs_run_lines.proofs.Showing.{shows_none}
use Rattle.pgs_store.specs.Loads.{FindsNone}
use Rattle.pgs_syntax.specs.declared.resolved.Resolved.{Resolved}
use Rattle.pgs_world.specs.declared.area.Area.TheVariants.{B}
use Rattle.pgs_world.specs.Moment.{EachSince, IsQuiet, IsSettled, IsTimed}
use Rattle.pgs_world.specs.World.{View}
use Rattle.pgs_world.proofs.Moments.{each_quiet}
use Rattle.pgs_command.specs.declared.status.Status.{Status}
use Rattle.pgs_command.specs.declared.status.Status.TheVariants.{Accepted, PutFault}
use Rattle.pgs_command.specs.Images.{KeepsImages}
use Rattle.pgs_command.proofs.Images.{area_of_images, each_images, images_quiet}
use Rattle.pgs_run_input.specs.Answers.{schema_answer}
use Rattle.pgs_run_input.specs.Input.{text_front}
use Rattle.pgs_run_input.proofs.SameFronts.{schema_of_front}
use Rattle.pgs_run_store.specs.Spec.{IsUnput}
use Rattle.pgs_run_renewal.specs.LoadLeaving.{LeavesLoaded}
use Rattle.pgs_run_renewal.specs.Loading.{IsLoading, IsLoadingAt, IsMade, IsNewStore}
use Rattle.pgs_run_renewal.proofs.LoadUnmoved.{starts_at, starts_empty}
use Rattle.pgs_run_renewal.proofs.Stops.{loading_whole, new_whole, same_loading}

-- ---- both areas are what they were

pub leaves_kept : (left : Option (List ℕ)) (old new : View) (status : Status) → KeepsImages old new
    → ((input : List ℕ) → left ≡ Some input → FindsNone old → IsTrue old.tells_output → IsSettled old → EachSince (IsLoadingAt old.shown input) old new)
    → ((input : List ℕ) → left ≡ Some input → FindsNone old → IsTrue old.tells_bytes → IsMade input status → ⊥)
    → (IsUnput status → ShowsAll (shown_of old) [] (shown_of new)) → LeavesLoaded left old new status
leaves_kept left old new status kept stops unmade unput = record {
  passes = kept.passes;
  stops = stops;
  grows = λ free settled. each_images old new IsLoading settled.honest same_loading kept (λ c may. inl (starts_empty old free settled c may));
  occupied = λ taken. kept;
  refused = λ input why is no. kept;
  unwritten = λ is. kept;
  beside = area_of_images B old new kept;
  made = λ tells input is free made. absurd (unmade input is free tells made);
  unput = unput;
}

-- nothing was put
pub shows_same : (start now : Shown) → now ≡ start → ShowsAll start [] now
shows_same start now same = subst (λ (at : Shown). ShowsAll start [] at) (sym same) (shows_none start)

-- the world was only read
pub leaves_quiet : (left : Option (List ℕ)) (old new : View) (status : Status) → IsTimed old → IsQuiet old new → shown_of new ≡ shown_of old → ((input : List ℕ) → IsMade input status → ⊥) → LeavesLoaded left old new status
leaves_quiet left old new status timed quiet same unmade =
    leaves_kept left old new status (images_quiet old new quiet)
    (λ input is free tells settled. each_quiet old new (IsLoadingAt old.shown input) settled.honest quiet (starts_at old input timed free tells settled)) (λ input is free tells made. unmade input made)
    (λ is. shows_same (shown_of old) (shown_of new) same)

-- ---- the front of an input

-- that the store was made, by the answer to its text
abbrev made_by : Result Resolved (List ℕ) → Status → Type 0
made_by answer Accepted = Unit {0}
made_by answer PutFault = (schema : Resolved) × (answer ≡ Ok schema)
made_by answer status = ⊥

pub leaves_whole : (left : Option (List ℕ)) (text : List ℕ) (old new : View) (status : Status) → ((input : List ℕ) → left ≡ Some input → text ≡ text_front input) → LeavesLoaded (Some text) old new status
    → LeavesLoaded left old new status
leaves_whole left text old new status front leaves = record {
  passes = leaves.passes;
  stops = λ input is free tells settled c since.
      loading_whole old.shown input c (subst (λ (t : List ℕ). IsLoadingAt old.shown t c) (front input is) (leaves.stops text refl free tells settled c since));
  grows = leaves.grows;
  occupied = leaves.occupied;
  refused = λ input why is no. leaves.refused text why refl (same input is ∙ no);
  unwritten = leaves.unwritten;
  beside = leaves.beside;
  made = λ tells input is free made.
      new_whole input new.shown
      (subst (λ (t : List ℕ). IsNewStore t new.shown) (front input is)
      (leaves.made tells text refl free (subst (λ (a : Result Resolved (List ℕ)). made_by a status) (sym (same input is)) made)));
  unput = leaves.unput;
}
  where
    same : (input : List ℕ) → left ≡ Some input → schema_answer text ≡ schema_answer input
    same input is = ap schema_answer (front input is) ∙ schema_of_front input
