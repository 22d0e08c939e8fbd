-- What the reading of a whole input as one text gives, and what it is to answer a text.
use Rattle.std.specs.Prelude.{◌≡◌, ◌⊎◌, ℕ, ◌<◌, ◌≤◌, Bool, true, false, List, length, Option, Result, Ok, Err}
use Rattle.pgs_world.specs.Count.{RoseByOne}
use Rattle.pgs_world.specs.Source.{IsAtEnd, Takes}
use Rattle.pgs_world.specs.World.{View}
use Rattle.pgs_run_lines.specs.Ending.{faults_of}
use Rattle.pgs_run_lines.specs.Machine.{Told}
use Rattle.pgs_run_lines.specs.Pieces.{shown_of}
use Rattle.pgs_command.specs.declared.status.Status.{Status}
use Rattle.pgs_command.specs.declared.status.Status.TheVariants.{ReadFault, Memory, InputTooLong}
use Rattle.pgs_command.specs.Answers.{IsOfCommand}
use Rattle.pgs_command.specs.Calls.{fails_read}
use Rattle.pgs_command.specs.Ending.{Ends}
use Rattle.pgs_command.specs.Run.{HasCause}
use Rattle.pgs_command.specs.Setting.{SourceState}
use Rattle.pgs_run_input.specs.Input.{text_front}

abbrev pub state_of : Option (List ℕ) → ℕ → SourceState
state_of left faults = record { left = left; faults = faults }

-- The input was read to its end, and has fewer bytes than the budget: this is its front.
pub record IsWhole (budget : ℕ) (before after : SourceState) (text : List ℕ) : Type 0 where
  pub bytes : List ℕ
  pub taken : Takes before.left after.left bytes
  pub front : text ≡ text_front bytes
  pub within : length bytes < budget
  pub at_end : IsAtEnd after.left
  pub faults : after.faults ≡ before.faults

-- why no more than so many bytes were taken: a read failed, there was no memory, or they are as many as the budget
abbrev pub WhyUnread : (budget count : ℕ) (before after : SourceState) → Status → Type 0
WhyUnread budget count before after status =
    ((status ≡ ReadFault) × RoseByOne before.faults after.faults)
    ⊎ (((status ≡ Memory) × (after.faults ≡ before.faults))
    ⊎ ((status ≡ InputTooLong) × (count ≡ budget) × (after.faults ≡ before.faults)))

-- The input gives no text.
pub record IsUnread (budget : ℕ) (before after : SourceState) (status : Status) : Type 0 where
  pub bytes : List ℕ
  pub taken : Takes before.left after.left bytes
  pub within : length bytes ≤ budget
  pub why : WhyUnread budget (length bytes) before after status

-- a read failed
abbrev pub fails_reading : {A : Type 0} → Result A Status → Bool
fails_reading (Ok text) = false
fails_reading (Err status) = fails_read status

-- What is told of a text was put, as far as no call failed and there was memory. Nothing was read for it.
pub record AnswersText (told : Told Status) (old new : View) (status : Status) : Type 0 where
  pub ends : Ends (shown_of old) told status (shown_of new)
  pub may_end : IsOfCommand status
  pub cause : (reads : Bool) (count : ℕ) → HasCause reads true (faults_of count old) (faults_of count new) status
