-- The check of a schema as a command. What it judges of the guard's types and keys is free, as long as it is right, and so is which place of a
-- refused text is told.
use Rattle.std.specs.Prelude.{◌≡◌, ℕ, true, List, Option, Some}
use Rattle.pgs_run_lines.specs.AreasKept.{KeepsAreas}
use Rattle.pgs_run_lines.specs.Machine.{Told}
use Rattle.pgs_world.specs.World.{View}
use Rattle.pgs_command.specs.declared.status.Status.{Status}
use Rattle.pgs_command.specs.declared.status.Status.TheVariants.{BadWords, StoreRefused, DiskFault}
use Rattle.pgs_command.specs.Kept.{without_areas}
use Rattle.pgs_command.specs.Spec.{CommandSpec}
use Rattle.pgs_run_input.specs.Text.{AnswersText}
use Rattle.pgs_run_input.specs.Answers.{schema_answer}
use Rattle.pgs_run_check_schema.specs.Told.{Chosen, nothing_chosen, IsRightOf, told_schema, told_text}

-- the statuses of a check
abbrev pub IsOfCheck : Status → Type 0
IsOfCheck BadWords = ⊥
IsOfCheck StoreRefused = ⊥
IsOfCheck DiskFault = ⊥
IsOfCheck status = Unit {0}

-- where lines may have been put, each type of the guard that isn't abstract is rightly judged, and each key; and so is the cause of a refusal
abbrev pub JudgesRightly : Chosen → (left : Option (List ℕ)) → (budget : ℕ) → Status → Type 0
JudgesRightly chosen left budget status = (input : List ℕ) → left ≡ Some input → IsRightOf input (schema_answer input) chosen status

abbrev pub schema_spec : CommandSpec
schema_spec =
    let kept = without_areas true IsOfCheck (told_schema nothing_chosen) in
    record {
      Choice = Chosen;
      told = λ chosen input areas bytes lost. told_schema chosen input bytes;
      IsRight = λ chosen old. JudgesRightly chosen old.source.left;
      reads_source = kept.reads_source;
      uses_areas = kept.uses_areas;
      AsksAreas = kept.AsksAreas;
      MayEnd = kept.MayEnd;
      ReadsInVain = kept.ReadsInVain;
      Leaves = kept.Leaves;
      Feeds = kept.Feeds;
      Gives = kept.Gives;
    }

-- what is told was put, and both areas are as they were
pub record Tells (told : Told Status) (old new : View) (status : Status) : Type 0 where
  pub answers : AnswersText told old new status
  pub may_end : IsOfCheck status
  pub areas : KeepsAreas old new

-- so of a text, by what is right
pub record TellsText (text : List ℕ) (old new : View) (status : Status) : Type 0 where
  pub chosen : Chosen
  pub right : IsRightOf text (schema_answer text) chosen status
  pub tells : Tells (told_text chosen text) old new status
