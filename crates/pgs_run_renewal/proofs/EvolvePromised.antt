-- The promise of a run, by how the store was opened, what the reading of the text gave, and what was done with it.
use Rattle.std.proofs.Common.{◌≡◌, ℕ, true, false, IsTrue, List, Option, Some, None, Result, refl, sym, ◌∙◌, ap, subst}
use Rattle.pgs_base.specs.Graph.{Graph}
use Rattle.pgs_run_lines.specs.Machine.{Told}
use Rattle.pgs_run_lines.specs.Ending.{Faults, faults_of}
use Rattle.pgs_run_lines.specs.Pieces.{Shown, shown_of}
use Rattle.pgs_command.specs.declared.status.Status.{Status}
use Rattle.pgs_command.specs.declared.status.Status.TheVariants.{DiskFault}
use Rattle.pgs_command.specs.Answers.{IsOfCommand}
use Rattle.pgs_command.specs.Areas.{areas_of}
use Rattle.pgs_command.specs.Ending.{Ends}
use Rattle.pgs_command.specs.Promise.{Promise}
use Rattle.pgs_command.specs.Run.{HasCause}
use Rattle.pgs_command.specs.Setting.{Setting, SourceState}
use Rattle.pgs_command.proofs.Images.{settled_images}
use Rattle.pgs_command.proofs.Promising.{promise_reading}
use Rattle.pgs_run_input.specs.Input.{text_front}
use Rattle.pgs_run_input.specs.Text.{AnswersText, IsUnread, IsWhole}
use Rattle.pgs_run_input.proofs.OneLine.{IsSilent, silent_faults}
use Rattle.pgs_run_input.proofs.SameFronts.{schema_of_front}
use Rattle.pgs_run_input.proofs.WholeInput.{RunsWhole, by_unread, told_whole, whole_input, with_text, without_text}
use Rattle.pgs_run_store.specs.declared.opening.Unopened.{Unopened}
use Rattle.pgs_run_store.specs.Ending.{is_refusal}
use Rattle.pgs_run_store.specs.Opening.{IsOpened}
use Rattle.pgs_run_store.specs.Refusing.{SavedStore, told_under}
use Rattle.pgs_run_store.proofs.Reading.{told_opened}
use Rattle.pgs_run_store.proofs.Unread.{RunsUnopened, unopened_answer, unopened_cause, unopened_ends, unopened_images, unopened_read, unopened_short, unopened_takes}
use Rattle.pgs_snapshot.specs.Choice.{chosen_next}
use Rattle.pgs_store.specs.Stored.{StoreState}
use Rattle.pgs_syntax.specs.declared.resolved.Resolved.{Resolved}
use Rattle.pgs_violation.specs.Violations.{verdict}
use Rattle.pgs_world.specs.Moment.{IsQuiet, IsSettled, IsTimed}
use Rattle.pgs_world.specs.World.{Triple, View}
use Rattle.pgs_world.proofs.Moments.{settled_quiet}
use Rattle.pgs_run_renewal.specs.EvolveLeaving.{EvolvesText, IsEvolvable, IsMade, LeavesEvolved}
use Rattle.pgs_run_renewal.specs.EvolveSpec.{evolve_spec}
use Rattle.pgs_run_renewal.specs.EvolveTold.{told_evolve, told_input, told_new, told_verdict}
use Rattle.pgs_run_renewal.proofs.EvolveKept.{next_there}
use Rattle.pgs_run_renewal.proofs.EvolveLeaving.{leaves_on, leaves_quiet, leaves_whole}
use Rattle.pgs_run_renewal.proofs.Unopened.{leaves_unopened}

-- ---- what is told

front_told : (next : Option ℕ) (input : List ℕ) (graph : Graph) → told_new next (text_front input) graph ≡ told_new next input graph
front_told None input graph = refl
front_told (Some number) input graph = ap (λ (answer : Result Resolved (List ℕ)). told_under answer (λ schema. told_verdict schema (verdict schema graph))) (schema_of_front input)

-- ---- a store was opened

pub evolvable : (it : StoreState) (old mid : View) → IsOpened it old mid → IsEvolvable it mid
evolvable it old mid opened = record { limits = opened.limits; whole = opened.whole; stands = opened.stands }

-- the areas were only read
pub record Opening (it : StoreState) (old mid : View) : Type 0 where
  pub opened : IsOpened it old mid
  pub timed : IsTimed old
  pub quiet : IsQuiet old mid
  pub silent : IsSilent old mid

module _ (it : StoreState) (budget : ℕ) (old : Setting) (mid : View) (opening : Opening it old.view mid) where
  told_same : (input : List ℕ) → IsTrue old.view.tells_bytes → (n : ℕ) → told_evolve input (areas_of old.view) n ≡ told_whole input (told_new it.journal.next input it.guard.graph) n
  unfolding told_evolve
  told_same input tells n =
      told_opened it old.view mid (λ (s : SavedStore). told_input input n (chosen_next old.view.shown.a old.view.shown.b) s.graph) opening.opened tells
      ∙ ap (λ (next : Option ℕ). told_input input n next it.guard.graph)
      (subst (λ (t : Triple). chosen_next t.a t.b ≡ it.journal.next) opening.quiet.shown
      (next_there it mid (evolvable it old.view mid opening.opened) (opening.quiet.passes.tells_bytes ∙ tells)))

  module _ (after : SourceState) (new : View) (status : Status) where
    abbrev Runs : Type 0
    Runs = RunsWhole (λ input. IsTrue old.view.tells_bytes) (λ input. told_evolve input (areas_of old.view)) budget old (record old { source = after; view = new }) status

    promised : Runs → IsOfCommand status → LeavesEvolved old.source.left old.view new status → (IsSettled old.view → (status ≡ DiskFault → ⊥) → IsSettled new)
        → Promise evolve_spec budget old (record old { source = after; view = new }) status
    promised runs may_end leaves settles = promise_reading evolve_spec budget old (record old { source = after; view = new }) status refl (record {
      choice = tt;
      right = tt;
      ends = λ input knows is. runs.ends input (knows.bytes tt) is;
      takes = runs.takes;
      full = runs.full;
      in_vain = λ vain. absurd (vain.1 it.guard.text it.guard.commits it.guard.graph (opening.opened.saves vain.0));
      read_to_end = runs.read_to_end;
      may_end = may_end;
      cause = runs.cause;
      leaves = leaves;
      settles = settles;
      feeds = refl;
    })

    -- what is told of the text behind the opening is told behind the start
    answers_opened : (told : Told Status) → AnswersText told mid new status → AnswersText told old.view new status
    answers_opened told answers = record {
      ends = subst (λ (s : Shown). Ends s told status (shown_of new)) opening.silent.shown answers.ends;
      may_end = answers.may_end;
      cause = λ reads count. subst (λ (before : Faults). HasCause reads true before (faults_of count new) status) (silent_faults count old.view mid opening.silent) (answers.cause reads count);
    }

    -- the text was read, and something was done with it
    pub promised_text : (text : List ℕ) → IsWhole budget old.source after text → EvolvesText (told_new it.journal.next text it.guard.graph) text mid new status
        → Promise evolve_spec budget old (record old { source = after; view = new }) status
    promised_text text whole evolves =
        let next = it.journal.next in
        let graph = it.guard.graph in
        promised
        (with_text (λ input. IsTrue old.view.tells_bytes) (λ input. told_evolve input (areas_of old.view)) (λ input. told_new next input graph) told_same budget old (record old { source = after; view = new }) text status (told_new next text graph) whole
        (λ input front asks. sym (front_told next input graph) ∙ ap (λ (t : List ℕ). told_new next t graph) (sym front)) (answers_opened (told_new next text graph) evolves.answers))
        evolves.answers.may_end
        (leaves_on old.source.left old.view mid new status opening.timed opening.quiet opening.silent.shown
        (leaves_whole old.source.left text mid new status (λ input is. (whole_input budget old.source after text input is whole).0) evolves.leaves))
        (λ settled no. evolves.settles (settled_quiet old.view mid settled opening.quiet) no)

  -- there was no text
  pub promised_none : (after : SourceState) (status : Status) → IsUnread budget old.source after status → Promise evolve_spec budget old (record old { source = after; view = mid }) status
  promised_none after status unread =
      promised after mid status
      (without_text (λ input. IsTrue old.view.tells_bytes) (λ input. told_evolve input (areas_of old.view)) (λ input. told_new it.journal.next input it.guard.graph) told_same budget old (record old { source = after; view = mid }) status unread opening.silent)
      (by_unread IsOfCommand budget old.source after status tt tt tt unread)
      (leaves_quiet old.source.left old.view mid status opening.timed opening.quiet opening.silent.shown
      (λ tells input before commits graph is saves.
      by_unread (λ (s : Status). IsMade (chosen_next old.view.shown.a old.view.shown.b) input graph s → ⊥) budget old.source after status (λ made. made) (λ made. made) (λ made. made) unread))
      (λ settled no. settled_quiet old.view mid settled opening.quiet)

-- ---- none was

pub promised_unopened : (reason : Unopened) (budget : ℕ) (old : Setting) (mid new : View) (status : Status) → IsTimed old.view → RunsUnopened reason old.view mid new status → (is_refusal reason ≡ false → new ≡ mid)
    → Promise evolve_spec budget old (record old { view = new }) status
unfolding told_evolve
promised_unopened reason budget old mid new status timed ran early = promise_reading evolve_spec budget old (record old { view = new }) status refl (record {
  choice = tt;
  right = tt;
  ends = λ input knows is.
      unopened_ends reason old.view mid new status ran input budget old.source.left is (λ bytes it. told_input input bytes (chosen_next old.view.shown.a old.view.shown.b) it.graph) (knows.bytes tt);
  takes = λ input rest is left_is. unopened_takes reason old.view mid new status ran input budget old.source.left is rest left_is;
  full = λ cut. absurd (unopened_short reason old.view mid new status ran cut);
  in_vain = λ vain. refl;
  read_to_end = unopened_read reason old.view mid new status ran old.source.left;
  may_end = unopened_answer reason old.view mid new status ran;
  cause = unopened_cause reason old.view mid new status ran true old.source.faults;
  leaves = leaves_unopened old.source.left reason old.view mid new status timed ran early;
  settles = λ settled no. settled_images old.view new settled (unopened_images reason old.view mid new status ran);
  feeds = refl;
})
