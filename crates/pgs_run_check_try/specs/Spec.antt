-- `try` and `apply` of the check as commands. Causes are free, as long as they are right. No area is written.
use Rattle.std.specs.Prelude.{◌≡◌, ◌⊎◌, ℕ, true, List, [], Some, IsTrue, Ok}
use Rattle.pgs_snapshot.specs.Saved.{saved, store}
use Rattle.pgs_command.specs.declared.status.Status.{Status}
use Rattle.pgs_command.specs.Answers.{IsOfCommand}
use Rattle.pgs_command.specs.Areas.{Areas, areas_of}
use Rattle.pgs_command.specs.Images.{KeepsImages}
use Rattle.pgs_command.specs.Kept.{without_areas}
use Rattle.pgs_command.specs.Run.{IsDisturbed}
use Rattle.pgs_command.specs.Setting.{Setting}
use Rattle.pgs_command.specs.Spec.{CommandSpec}
use Rattle.pgs_run_input.specs.Answers.{schema_answer}
use Rattle.pgs_run_input.specs.Session.{standard}
use Rattle.pgs_run_store.specs.Opening.{IsRefusal}
use Rattle.pgs_run_store.specs.Refusing.{SavedStore}
use Rattle.pgs_run_check_try.specs.Right.{AreRight, AreRightOf, lines_within}
use Rattle.pgs_run_check_try.specs.Told.{Causes, start_on, told_check_apply, told_check_try}

-- the causes of the lines of the input are right; none may be there where a fault or want of memory disturbed the run
abbrev pub ExplainsTry : Causes → Setting → (budget : ℕ) → Status → Type 0
ExplainsTry causes old budget status =
    (input : List ℕ) → old.source.left ≡ Some input → AreRightOf (IsDisturbed status) causes (lines_within input budget)

abbrev pub check_try_spec : CommandSpec
check_try_spec =
    let kept = without_areas true IsOfCommand (told_check_try (λ number. [])) in
    record {
      Choice = Causes;
      told = λ causes input areas bytes lost. told_check_try causes input bytes;
      IsRight = ExplainsTry;
      reads_source = kept.reads_source;
      uses_areas = kept.uses_areas;
      AsksAreas = kept.AsksAreas;
      MayEnd = kept.MayEnd;
      ReadsInVain = kept.ReadsInVain;
      Leaves = kept.Leaves;
      Feeds = kept.Feeds;
      Gives = kept.Gives;
    }

-- the two areas save this store
pub record IsSavedIn (it : SavedStore) (areas : Areas) : Type 0 where
  pub saves : saved standard areas.a areas.b ≡ store it.text it.commits it.graph
  pub schema : schema_answer it.text ≡ Ok it.schema

-- so on the store that the areas save
abbrev pub ExplainsApply : Causes → Setting → (budget : ℕ) → Status → Type 0
ExplainsApply causes old budget status =
    (input : List ℕ) (it : SavedStore) → old.source.left ≡ Some input → IsTrue old.view.tells_bytes → IsSavedIn it (areas_of old.view)
    → AreRight (IsDisturbed status) causes it.text it.schema (start_on it) (lines_within input budget)

-- It has nothing to read its source for where the areas are refused, or save no store.
abbrev pub check_apply_spec : CommandSpec
check_apply_spec = record {
  Choice = Causes;
  told = λ causes input areas bytes lost. told_check_apply causes input areas bytes;
  IsRight = ExplainsApply;
  reads_source = true;
  uses_areas = true;
  AsksAreas = λ input. Unit {0};
  MayEnd = IsOfCommand;
  ReadsInVain = λ old status. IsRefusal status ⊎ (IsTrue old.view.tells_bytes × ((it : SavedStore) → IsSavedIn it (areas_of old.view) → ⊥));
  Leaves = λ old new status. KeepsImages old.view new.view;
  Feeds = λ old new status. new.places ≡ old.places;
  Gives = λ old new status deliveries. deliveries ≡ [];
}
