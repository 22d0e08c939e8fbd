-- The promise of a run over a saved store, by how the store was opened, what the reading of the text gave, and what was told of it.
use Rattle.std.proofs.Common.{◌≡◌, ℕ, ◌<◌, true, false, nat_lt, IsTrue, List, [], ◌++◌, length, Option, Some, None, Result, Ok, Err, is_some, refl, sym, ◌∙◌, ap, subst, arith}
use Rattle.std.proofs.lemmas.Bool.Decides.{nat_tests}
use Rattle.pgs_base.specs.Graph.{Graph}
use Rattle.pgs_run_lines.specs.Machine.{Told}
use Rattle.pgs_run_lines.specs.Ending.{Faults, faults_of}
use Rattle.pgs_run_lines.specs.Pieces.{Shown, shown_of}
use Rattle.pgs_syntax.specs.declared.resolved.Resolved.{Resolved}
use Rattle.pgs_world.specs.Moment.{IsQuiet, IsSettled, IsTimed}
use Rattle.pgs_world.specs.World.{Triple, View}
use Rattle.pgs_command.specs.declared.status.Status.{Status}
use Rattle.pgs_command.specs.declared.status.Status.TheVariants.{Accepted, Refused, DiskFault, ReadFault, Memory, InputTooLong}
use Rattle.pgs_command.specs.Answers.{IsOfCommand}
use Rattle.pgs_command.specs.Areas.{areas_of}
use Rattle.pgs_command.specs.Ending.{Ends}
use Rattle.pgs_command.specs.Images.{KeepsImages}
use Rattle.pgs_command.specs.Promise.{Promise}
use Rattle.pgs_command.specs.Run.{HasCause}
use Rattle.pgs_command.specs.Setting.{Setting, SourceState}
use Rattle.pgs_command.proofs.Images.{images_areas, images_on, images_quiet, settled_images}
use Rattle.pgs_command.proofs.Promising.{promise_reading}
use Rattle.pgs_store.specs.Stored.{StoreState}
use Rattle.pgs_snapshot.specs.Choice.{chosen_next}
use Rattle.pgs_snapshot.specs.Saved.{SavedState, saved, store}
use Rattle.pgs_run_input.specs.Answers.{schema_answer}
use Rattle.pgs_run_input.specs.Input.{text_limit, text_front}
use Rattle.pgs_run_input.specs.Session.{standard}
use Rattle.pgs_run_input.specs.Text.{AnswersText, IsUnread, IsWhole}
use Rattle.pgs_run_input.proofs.OneLine.{IsSilent, silent_faults}
use Rattle.pgs_run_input.proofs.SameFronts.{schema_of_front}
use Rattle.pgs_run_lines.proofs.Fronts.{same_of_front}
use Rattle.pgs_run_input.proofs.WholeInput.{RunsWhole, by_unread, told_whole, whole_input, with_text, without_text}
use Rattle.pgs_run_contain.specs.Names.{Names, names_in}
use Rattle.pgs_run_contain.specs.Running.{HasAllLines}
use Rattle.pgs_run_refusal.proofs.Fronts.{cause_of_front}
use Rattle.pgs_run_store.specs.declared.opening.Unopened.{Unopened}
use Rattle.pgs_run_store.specs.Ending.{is_refusal}
use Rattle.pgs_run_store.specs.Opening.{IsOpened, saved_in}
use Rattle.pgs_run_store.specs.Refusing.{SavedStore}
use Rattle.pgs_run_store.proofs.Reading.{told_opened}
use Rattle.pgs_run_store.proofs.Unread.{RunsUnopened, unopened_answer, unopened_by, unopened_cause, unopened_ends, unopened_images, unopened_read, unopened_short, unopened_takes}
use Rattle.pgs_run_renewal.proofs.EvolveKept.{next_there}
use Rattle.pgs_run_renewal.proofs.EvolvePromised.{Opening, evolvable}
use Rattle.pgs_run_check_evolve.specs.Stored.{AnswersStored, IsRightOf, TellsNext, told_evolve_store, told_next, told_text, told_within}
use Rattle.pgs_run_check_evolve.specs.StoreSpec.{check_evolve_store_spec}
use Rattle.pgs_run_check_evolve.specs.Told.{AreRightly, Chosen, nothing_chosen}
use Rattle.pgs_run_check_evolve.proofs.StoreNext.{right_nothing}

-- what is told of a front of a text is told of the text
front_told : (chosen : Chosen) (next : Option ℕ) (input : List ℕ) (it : SavedStore) → told_next chosen next (text_front input) it ≡ told_next chosen next input it
front_told chosen None input it = refl
front_told chosen (Some number) input it = ap (told_text chosen it) (schema_of_front input)

long_names : (text : List ℕ) → text_limit < length text → names_in text ≡ []
unfolding names_in
long_names text long = rw (let is : nat_lt text_limit (length text) ≡ true = grind (arith, nat_tests) in is) refl

names_of_front : (text : List ℕ) → names_in (text_front text) ≡ names_in text
names_of_front text = same_of_front text_limit names_in [] text long_names

right_by : (was : Resolved) (saved : List ℕ) (chosen : Chosen) (status : Status) (input : List ℕ) (answer : Result Resolved (List ℕ)) → IsRightOf was saved (text_front input) answer chosen status → IsRightOf was saved input answer chosen status
right_by was saved chosen status input (Ok new) right = subst (λ (names : Names). AreRightly chosen.answers was new (names_in saved ++ names) status) (names_of_front input) right
right_by was saved chosen status input (Err refusal) right = cause_of_front input chosen.cause right

-- and so what is right of it
right_of_front : (was : Resolved) (saved : List ℕ) (chosen : Chosen) (status : Status) (input : List ℕ) → IsRightOf was saved (text_front input) (schema_answer (text_front input)) chosen status → IsRightOf was saved input (schema_answer input) chosen status
right_of_front was saved chosen status input right =
    right_by was saved chosen status input (schema_answer input)
    (subst (λ (answer : Result Resolved (List ℕ)). IsRightOf was saved (text_front input) answer chosen status) (schema_of_front input) right)

-- a store that is saved as two things is saved as one
module _ (it : StoreState) (old mid : View) (opened : IsOpened it old mid) (tells : IsTrue old.tells_bytes) where
  saved_text : (text : List ℕ) (commits : ℕ) (graph : Graph) → saved standard old.shown.a old.shown.b ≡ store text commits graph → it.guard.text ≡ text
  saved_text text commits graph saves = let same : store it.guard.text it.guard.commits it.guard.graph ≡ store text commits graph = sym (opened.saves tells) ∙ saves in cc

  saved_schema : (text : List ℕ) (commits : ℕ) (graph : Graph) (was : Resolved) → saved standard old.shown.a old.shown.b ≡ store text commits graph → schema_answer text ≡ Ok was → was ≡ it.guard.schema
  saved_schema text commits graph was saves is =
      let same : store it.guard.text it.guard.commits it.guard.graph ≡ store text commits graph = sym (opened.saves tells) ∙ saves in
      let texts : it.guard.text ≡ text = cc in
      let answers : Ok was ≡ Ok it.guard.schema = sym is ∙ ap schema_answer (sym texts) ∙ opened.schema in
      cc

module _ (it : StoreState) (budget : ℕ) (old : Setting) (mid : View) (opening : Opening it old.view mid) where
  told_same : (chosen : Chosen) (input : List ℕ) → IsTrue old.view.tells_bytes → (n : ℕ) → told_evolve_store chosen input (areas_of old.view) n ≡ told_whole input (told_next chosen it.journal.next input (saved_in it)) n
  unfolding told_evolve_store
  told_same chosen input tells n =
      told_opened it old.view mid (λ (s : SavedStore). told_within chosen input n (chosen_next old.view.shown.a old.view.shown.b) s) opening.opened tells
      ∙ ap (λ (next : Option ℕ). told_within chosen input n next (saved_in it))
      (subst (λ (t : Triple). chosen_next t.a t.b ≡ it.journal.next) opening.quiet.shown
      (next_there it mid (evolvable it old.view mid opening.opened) (opening.quiet.passes.tells_bytes ∙ tells)))

  module _ (chosen : Chosen) (after : SourceState) (new : View) (status : Status) where
    abbrev Runs : Type 0
    Runs = RunsWhole (λ input. IsTrue old.view.tells_bytes) (λ input. told_evolve_store chosen input (areas_of old.view)) budget old (record old { source = after; view = new }) status

    promised : Runs → AnswersStored chosen old budget status → IsOfCommand status → KeepsImages old.view new → Promise check_evolve_store_spec budget old (record old { source = after; view = new }) status
    promised runs right may_end images = promise_reading check_evolve_store_spec budget old (record old { source = after; view = new }) status refl (record {
      choice = chosen;
      right = right;
      ends = λ input knows is. runs.ends input (knows.bytes tt) is;
      takes = runs.takes;
      full = runs.full;
      in_vain = λ vain. absurd (vain.1 it.guard.text it.guard.commits it.guard.graph (opening.opened.saves vain.0));
      read_to_end = runs.read_to_end;
      may_end = may_end;
      cause = runs.cause;
      leaves = images;
      settles = λ settled no. settled_images old.view new settled images;
      feeds = refl;
    })

    answers_opened : (told : Told Status) → AnswersText told mid new status → AnswersText told old.view new status
    answers_opened told answers = record {
      ends = subst (λ (s : Shown). Ends s told status (shown_of new)) opening.silent.shown answers.ends;
      may_end = answers.may_end;
      cause = λ reads count. subst (λ (before : Faults). HasCause reads true before (faults_of count new) status) (silent_faults count old.view mid opening.silent) (answers.cause reads count);
    }

  -- the text was read, and told of
  pub promised_text : (after : SourceState) (new : View) (status : Status) (text : List ℕ) → IsWhole budget old.source after text → TellsNext (saved_in it) it.journal.next text mid new status
      → Promise check_evolve_store_spec budget old (record old { source = after; view = new }) status
  promised_text after new status text whole tells =
      let next = it.journal.next in
      let chosen = tells.chosen in
      promised chosen after new status
      (with_text (λ input. IsTrue old.view.tells_bytes) (λ input. told_evolve_store chosen input (areas_of old.view)) (λ input. told_next chosen next input (saved_in it)) (told_same chosen) budget old (record old { source = after; view = new }) text status (told_next chosen next text (saved_in it)) whole
      (λ input front asks. sym (front_told chosen next input (saved_in it)) ∙ ap (λ (t : List ℕ). told_next chosen next t (saved_in it)) (sym front)) (answers_opened chosen after new status (told_next chosen next text (saved_in it)) tells.answers))
      (λ input was_text commits graph is known saves was of_saved.
      subst (λ (r : Resolved). IsRightOf r was_text input (schema_answer input) chosen status) (sym (saved_schema it old.view mid opening.opened known was_text commits graph was saves of_saved))
      (subst (λ (t : List ℕ). IsRightOf it.guard.schema t input (schema_answer input) chosen status) (saved_text it old.view mid opening.opened known was_text commits graph saves)
      (right_of_front it.guard.schema it.guard.text chosen status input
      (subst (λ (t : List ℕ). IsRightOf it.guard.schema it.guard.text t (schema_answer t) chosen status) (whole_input budget old.source after text input is whole).0 tells.right))))
      tells.answers.may_end
      (images_on old.view mid new (images_quiet old.view mid opening.quiet) (images_areas mid new tells.areas))

  -- there was no text
  pub promised_none : (after : SourceState) (status : Status) → IsUnread budget old.source after status → Promise check_evolve_store_spec budget old (record old { source = after; view = mid }) status
  promised_none after status unread =
      promised nothing_chosen after mid status
      (without_text (λ input. IsTrue old.view.tells_bytes) (λ input. told_evolve_store nothing_chosen input (areas_of old.view)) (λ input. told_next nothing_chosen it.journal.next input (saved_in it)) (told_same nothing_chosen) budget old (record old { source = after; view = mid }) status unread opening.silent)
      (λ input text commits graph is known saves was of_saved.
      right_nothing was text input (schema_answer input) status (by_unread (λ (s : Status). HasAllLines s → ⊥) budget old.source after status (λ done. done) (λ done. done) (λ done. done) unread))
      (by_unread IsOfCommand budget old.source after status tt tt tt unread)
      (images_quiet old.view mid opening.quiet)

-- ---- none was opened

pub promised_unopened : (reason : Unopened) (budget : ℕ) (old : Setting) (mid new : View) (status : Status) → RunsUnopened reason old.view mid new status → Promise check_evolve_store_spec budget old (record old { view = new }) status
unfolding told_evolve_store
promised_unopened reason budget old mid new status ran =
    let images = unopened_images reason old.view mid new status ran in
    promise_reading check_evolve_store_spec budget old (record old { view = new }) status refl (record {
      choice = nothing_chosen;
      right = λ input text commits graph is known saves was of_saved.
          right_nothing was text input (schema_answer input) status (unopened_by reason old.view mid new status ran (λ (s : Status). HasAllLines s → ⊥) (λ done. done) (λ done. done) (λ done. done) (λ done. done) (λ done. done));
      ends = λ input knows is.
          unopened_ends reason old.view mid new status ran input budget old.source.left is (λ bytes it. told_within nothing_chosen input bytes (chosen_next old.view.shown.a old.view.shown.b) it) (knows.bytes tt);
      takes = λ input rest is left_is. unopened_takes reason old.view mid new status ran input budget old.source.left is rest left_is;
      full = λ cut. absurd (unopened_short reason old.view mid new status ran cut);
      in_vain = λ vain. refl;
      read_to_end = unopened_read reason old.view mid new status ran old.source.left;
      may_end = unopened_answer reason old.view mid new status ran;
      cause = unopened_cause reason old.view mid new status ran true old.source.faults;
      leaves = images;
      settles = λ settled no. settled_images old.view new settled images;
      feeds = refl;
    })
