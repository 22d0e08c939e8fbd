-- The promise of a check, by what the reading of its text gave and by what was done with it.
use Rattle.std.proofs.Common.{◌≡◌, ℕ, Bool, true, false, List, refl, sym, ap, subst, ◌∙◌}
use Rattle.pgs_run_lines.specs.AreasKept.{KeepsAreas, keeps_none}
use Rattle.pgs_run_lines.specs.Ending.{Faults}
use Rattle.pgs_world.specs.Moment.{IsTimed}
use Rattle.pgs_command.specs.declared.status.Status.{Status}
use Rattle.pgs_command.specs.declared.status.Status.TheVariants.{Accepted, Refused, BadWords, SchemaRefused, StoreRefused, DiskFault, ReadFault, PutFault, Memory, InputTooLong}
use Rattle.pgs_command.specs.Promise.{Promise}
use Rattle.pgs_command.specs.Run.{HasCause}
use Rattle.pgs_command.specs.Setting.{Setting, SourceState, faults_in}
use Rattle.pgs_command.proofs.Images.{images_areas, settled_images}
use Rattle.pgs_command.proofs.Promising.{promise_reading}
use Rattle.pgs_run_input.specs.Text.{IsUnread, IsWhole}
use Rattle.pgs_run_input.proofs.OneLine.{silent_none}
use Rattle.pgs_run_input.specs.Answers.{schema_answer}
use Rattle.pgs_run_input.proofs.WholeInput.{RunsWhole, by_unread, told_whole, whole_input, with_text, without_text}
use Rattle.pgs_run_check_schema.specs.Spec.{JudgesRightly, IsOfCheck, TellsText, schema_spec}
use Rattle.pgs_run_check_schema.specs.Told.{Chosen, nothing_chosen, IsRightOf, HasLines, told_schema, told_text}
use Rattle.pgs_run_check_schema.proofs.Fronts.{right_of_front, told_of_front}
use Rattle.pgs_run_check_schema.proofs.Telling.{right_none}

abbrev AsksNothing : List ℕ → Type 0
AsksNothing input = Unit {0}

tells : (chosen : Chosen) (input : List ℕ) → AsksNothing input → (n : ℕ) → told_schema chosen input n ≡ told_whole input (told_text chosen input) n
unfolding told_schema
tells chosen input asks n = refl

-- with the statuses of a check no area is at fault
without_areas : (reads : Bool) (before now : Faults) (status : Status) → IsOfCheck status → HasCause reads true before now status → HasCause reads false before now status
without_areas reads before now Accepted may cause = cause
without_areas reads before now Refused may cause = cause
without_areas reads before now BadWords may cause = absurd may
without_areas reads before now SchemaRefused may cause = cause
without_areas reads before now StoreRefused may cause = absurd may
without_areas reads before now DiskFault may cause = absurd may
without_areas reads before now ReadFault may cause = cause
without_areas reads before now PutFault may cause = cause
without_areas reads before now Memory may cause = cause
without_areas reads before now InputTooLong may cause = cause

module _ (budget : ℕ) (old new : Setting) (status : Status) (places : new.places ≡ old.places) where
  promised : (chosen : Chosen) → JudgesRightly chosen old.source.left budget status → RunsWhole AsksNothing (told_schema chosen) budget old new status → IsOfCheck status
      → KeepsAreas old.view new.view → Promise schema_spec budget old new status
  promised chosen right runs may_end areas = promise_reading schema_spec budget old new status refl (record {
    choice = chosen;
    right = right;
    ends = λ input knows is. runs.ends input tt is;
    takes = runs.takes;
    full = runs.full;
    in_vain = λ vain. absurd vain;
    read_to_end = runs.read_to_end;
    may_end = may_end;
    cause = without_areas true (faults_in old) (faults_in new) status may_end runs.cause;
    leaves = areas;
    settles = λ settled no. settled_images old.view new.view settled (images_areas old.view new.view areas);
    feeds = places;
  })

  -- the text was checked
  pub promised_text : (text : List ℕ) → IsWhole budget old.source new.source text → TellsText text old.view new.view status → Promise schema_spec budget old new status
  promised_text text whole told =
      promised told.chosen
      (λ input is.
      right_of_front told.chosen status input
      (subst (λ (t : List ℕ). IsRightOf t (schema_answer t) told.chosen status) (whole_input budget old.source new.source text input is whole).0 told.right))
      (with_text AsksNothing (told_schema told.chosen) (told_text told.chosen) (tells told.chosen) budget old new text status (told_text told.chosen text) whole
      (λ input front asks. sym (told_of_front told.chosen input) ∙ ap (told_text told.chosen) (sym front)) told.tells.answers)
      told.tells.may_end told.tells.areas

-- there was no text
pub promised_none : (budget : ℕ) (old : Setting) (after : SourceState) (status : Status) → IsTimed old.view → IsUnread budget old.source after status → Promise schema_spec budget old (record old { source = after }) status
promised_none budget old after status timed unread =
    let new : Setting = record old { source = after } in
    let none = by_unread (λ (s : Status). HasLines s → ⊥) budget old.source after status (λ no. no) (λ no. no) (λ no. no) unread in
    promised budget old new status refl nothing_chosen (λ input is. right_none input (schema_answer input) status none)
    (without_text AsksNothing (told_schema nothing_chosen) (told_text nothing_chosen) (tells nothing_chosen) budget old new status unread (silent_none old.view))
    (by_unread IsOfCheck budget old.source after status tt tt tt unread) (keeps_none old.view timed)
