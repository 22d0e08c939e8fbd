-- The promise of a run, by what the reading of its text gave and by what was done with it.
use Rattle.std.proofs.Common.{◌≡◌, ℕ, List, Result, refl, sym, ap, ◌∙◌}
use Rattle.pgs_snapshot.specs.Choice.{choice_of}
use Rattle.pgs_syntax.specs.declared.resolved.Resolved.{Resolved}
use Rattle.pgs_world.specs.Moment.{IsSettled, IsTimed}
use Rattle.pgs_world.proofs.Moments.{quiet_none}
use Rattle.pgs_command.specs.declared.status.Status.{Status}
use Rattle.pgs_command.specs.declared.status.Status.TheVariants.{DiskFault}
use Rattle.pgs_command.specs.Answers.{IsOfCommand}
use Rattle.pgs_command.specs.Areas.{Areas, areas_of}
use Rattle.pgs_command.specs.Promise.{Promise}
use Rattle.pgs_command.specs.Setting.{Setting, SourceState}
use Rattle.pgs_command.proofs.Promising.{promise_reading}
use Rattle.pgs_run_input.specs.Answers.{schema_answer}
use Rattle.pgs_run_input.specs.Text.{IsUnread, IsWhole}
use Rattle.pgs_run_input.proofs.SameFronts.{schema_of_front}
use Rattle.pgs_run_input.proofs.OneLine.{silent_none}
use Rattle.pgs_run_input.proofs.WholeInput.{RunsWhole, by_unread, told_whole, whole_input, with_text, without_text}
use Rattle.pgs_run_store.specs.Refusing.{told_under}
use Rattle.pgs_run_renewal.specs.LoadLeaving.{LeavesLoaded, LoadsText}
use Rattle.pgs_run_renewal.specs.Loading.{IsMade, TellsFor}
use Rattle.pgs_run_renewal.specs.LoadSpec.{load_spec}
use Rattle.pgs_run_renewal.specs.LoadTold.{told_choice, told_load, told_text}
use Rattle.pgs_run_renewal.proofs.LoadLeaving.{leaves_quiet, leaves_whole}

tells : (areas : Areas) (input : List ℕ) (n : ℕ) → told_load input areas n ≡ told_whole input (told_text input areas) n
unfolding told_load
tells areas input n = refl

told_by : (areas : Areas) (text input : List ℕ) → schema_answer text ≡ schema_answer input → told_text text areas ≡ told_text input areas
told_by areas text input same = ap (λ (answer : Result Resolved (List ℕ)). told_under answer (λ s. told_choice s (choice_of areas.a areas.b))) same

module _ (budget : ℕ) (old new : Setting) (status : Status) (places : new.places ≡ old.places) where
  abbrev Runs : Type 0
  Runs = RunsWhole (λ input. TellsFor input old.view) (λ input. told_load input (areas_of old.view)) budget old new status

  promised : Runs → IsOfCommand status → LeavesLoaded old.source.left old.view new.view status → (IsSettled old.view → (status ≡ DiskFault → ⊥) → IsSettled new.view) → Promise load_spec budget old new status
  promised runs may_end leaves settles = promise_reading load_spec budget old new status refl (record {
    choice = tt;
    right = tt;
    ends = λ input knows is. runs.ends input (λ schema good. knows.bytes (schema, good)) is;
    takes = runs.takes;
    full = runs.full;
    in_vain = λ vain. absurd vain;
    read_to_end = runs.read_to_end;
    may_end = may_end;
    cause = runs.cause;
    leaves = leaves;
    settles = settles;
    feeds = places;
  })

  -- the text was loaded
  pub promised_text : (text : List ℕ) → IsWhole budget old.source new.source text → LoadsText text old.view new.view status → Promise load_spec budget old new status
  promised_text text whole loads =
      promised
      (with_text (λ input. TellsFor input old.view) (λ input. told_load input (areas_of old.view)) (λ input. told_text input (areas_of old.view)) (λ input asks n. tells (areas_of old.view) input n) budget old new text status loads.told whole
      (λ input front asks.
      let same = ap schema_answer front ∙ schema_of_front input in
      sym (told_by (areas_of old.view) text input same) ∙ loads.is_told (λ schema good. asks schema (sym same ∙ good)))
      loads.answers)
      loads.answers.may_end (leaves_whole old.source.left text old.view new.view status (λ input is. (whole_input budget old.source new.source text input is whole).0) loads.leaves) loads.settles

-- there was no text
pub promised_none : (budget : ℕ) (old : Setting) (after : SourceState) (status : Status) → IsTimed old.view → IsUnread budget old.source after status → Promise load_spec budget old (record old { source = after }) status
promised_none budget old after status timed unread =
    let new : Setting = record old { source = after } in
    promised budget old new status refl
    (without_text (λ input. TellsFor input old.view) (λ input. told_load input (areas_of old.view)) (λ input. told_text input (areas_of old.view)) (λ input asks n. tells (areas_of old.view) input n) budget old new status unread (silent_none old.view))
    (by_unread IsOfCommand budget old.source after status tt tt tt unread)
    (leaves_quiet old.source.left old.view old.view status timed (quiet_none old.view timed) refl
    (λ input. by_unread (λ (s : Status). IsMade input s → ⊥) budget old.source after status (λ made. made) (λ made. made) (λ made. made) unread))
    (λ settled no. settled)
