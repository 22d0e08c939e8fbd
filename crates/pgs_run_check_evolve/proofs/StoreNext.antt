-- What is told of a text over an opened store, by what was put.
use Rattle.std.proofs.Common.{◌≡◌, ℕ, Bool, true, List, [], ◌∷◌, ◌++◌, Option, Some, None, Result, Ok, Err, is_some, refl, sym, ap, subst, ◌∙◌}
use Rattle.pgs_answer.specs.Lines.{store_refused_line}
use Rattle.pgs_answer.specs.Refusals.{old_format_text}
use Rattle.pgs_resolve.specs.SchemaOf.{schema_of}
use Rattle.pgs_run_lines.specs.declared.stop.Stop.{Stop}
use Rattle.pgs_run_lines.specs.AreasKept.{KeepsAreas, keeps_none}
use Rattle.pgs_run_lines.specs.Machine.{Told}
use Rattle.pgs_run_lines.proofs.Causes.{world_same}
use Rattle.pgs_syntax.specs.declared.resolved.Resolved.{Resolved}
use Rattle.pgs_world.specs.Moment.{IsTimed}
use Rattle.pgs_world.specs.World.{View}
use Rattle.pgs_command.specs.declared.status.Status.{Status}
use Rattle.pgs_command.specs.declared.status.Status.TheVariants.{Accepted, Refused, BadWords, SchemaRefused, StoreRefused, DiskFault, ReadFault, PutFault, Memory, InputTooLong}
use Rattle.pgs_command.specs.Ending.{status_at}
use Rattle.pgs_command.proofs.Replied.{by_last}
use Rattle.pgs_run_input.specs.Answers.{schema_answer}
use Rattle.pgs_run_input.specs.Text.{AnswersText}
use Rattle.pgs_run_input.proofs.Answering.{answer_is}
use Rattle.pgs_run_input.proofs.OneLine.{PutsLine, answers_line, answers_none, silent_none}
use Rattle.pgs_run_contain.specs.Behind.{FollowsBoth}
use Rattle.pgs_run_contain.specs.Names.{names_in}
use Rattle.pgs_run_contain.specs.Running.{HasAllLines}
use Rattle.pgs_run_refusal.specs.Refused.{HasRefusal}
use Rattle.pgs_run_store.specs.Refusing.{SavedStore}
use Rattle.pgs_run_check_evolve.specs.Stored.{IsRightOf, TellsNext, stored_behind, told_next, told_stored, told_text}
use Rattle.pgs_run_check_evolve.specs.Telling.{TellsRefusal}
use Rattle.pgs_run_check_evolve.specs.Told.{Chosen, chosen_cause, nothing_chosen}
use Rattle.pgs_run_check_evolve.proofs.SavedSteps.{answers_told, stored_told}

-- nothing was chosen, and with this status nothing has to be
pub right_nothing : (was : Resolved) (saved text : List ℕ) (answer : Result Resolved (List ℕ)) (status : Status) → (HasAllLines status → ⊥) → IsRightOf was saved text answer nothing_chosen status
right_nothing was saved text (Ok new) status undone = undone
right_nothing was saved text (Err refusal) status undone = tt

-- nothing was done, for want of memory
pub none_next : (it : SavedStore) (next : Option ℕ) (text : List ℕ) (view : View) → IsTimed view → TellsNext it next text view view Memory
none_next it next text view timed = record {
  chosen = nothing_chosen;
  right = right_nothing it.schema it.text text (schema_answer text) Memory (λ done. done);
  answers = answers_none (told_next nothing_chosen next text it) view view (silent_none view);
  areas = keeps_none view timed;
}

-- ---- the text is no schema's

abbrev told_refusal : List (List ℕ) → Told Status
told_refusal lines = record { pieces = lines; status = SchemaRefused }

refusal_told : (told : Told Status) (lines : List (List ℕ)) (old new : View) (result : Status) → told_refusal lines ≡ told → TellsRefusal lines old new result → AnswersText told old new result
refusal_told told lines old new result is tells =
    subst (λ (t : Told Status). AnswersText t old new result) is (by result tells)
  where
    by : (status : Status) → TellsRefusal lines old new status → AnswersText (told_refusal lines) old new status
    by SchemaRefused puts = record { ends = (puts.shows, refl); may_end = tt; cause = λ reads count. world_same count count old new refl puts.faults }
    by PutFault puts = record { ends = puts.shows; may_end = tt; cause = λ reads count. (puts.cause.0, refl, puts.cause.2) }
    by Accepted none = absurd none
    by Refused none = absurd none
    by BadWords none = absurd none
    by StoreRefused none = absurd none
    by DiskFault none = absurd none
    by ReadFault none = absurd none
    by Memory none = absurd none
    by InputTooLong none = absurd none

refusal_areas : (lines : List (List ℕ)) (old new : View) (status : Status) → TellsRefusal lines old new status → KeepsAreas old new
refusal_areas lines old new SchemaRefused puts = puts.areas
refusal_areas lines old new PutFault puts = puts.areas
refusal_areas lines old new Accepted none = absurd none
refusal_areas lines old new Refused none = absurd none
refusal_areas lines old new BadWords none = absurd none
refusal_areas lines old new StoreRefused none = absurd none
refusal_areas lines old new DiskFault none = absurd none
refusal_areas lines old new ReadFault none = absurd none
refusal_areas lines old new Memory none = absurd none
refusal_areas lines old new InputTooLong none = absurd none

pub refused_next : (it : SavedStore) (number : ℕ) (text : List ℕ) (lines : List (List ℕ)) (old new : View) (result : Status) → HasRefusal (schema_of text) text lines → TellsRefusal lines old new result → TellsNext it (Some number) text old new result
refused_next it number text lines old new result has tells =
    let is : schema_answer text ≡ Err has.refused.text = answer_is text ∙ has.refused.refused in
    let chosen = chosen_cause has.cause in
    record {
      chosen = chosen;
      right = subst (λ (answer : Result Resolved (List ℕ)). IsRightOf it.schema it.text text answer chosen result) (sym is) has.right;
      answers = refusal_told (told_next chosen (Some number) text it) lines old new result
          (ap told_refusal (has.is ∙ ap (λ (line : List ℕ). line ∷ has.cause) has.refused.is) ∙ sym (ap (told_text chosen it) is)) tells;
      areas = refusal_areas lines old new result tells;
    }

-- ---- the store is of the first format

pub old_next : (it : SavedStore) (next : Option ℕ) (text : List ℕ) (old : View) (result : Status) (new : View) → next ≡ None → PutsLine (store_refused_line old_format_text) StoreRefused old result new → TellsNext it next text old new result
old_next it next text old result new none put = record {
  chosen = nothing_chosen;
  right = right_nothing it.schema it.text text (schema_answer text) result (by_last (λ (s : Status). HasAllLines s → ⊥) (store_refused_line old_format_text) StoreRefused result old new (λ done. done) (λ done. done) (λ done. done) put.ends);
  answers =
      answers_line (told_next nothing_chosen next text it) (store_refused_line old_format_text) StoreRefused result old old new (silent_none old) refl tt (ap (λ (n : Option ℕ). told_next nothing_chosen n text it) none) put;
  areas = put.areas;
}

-- ---- it is a schema's, and told of

told_some : (chosen : Chosen) (it : SavedStore) (next : Option ℕ) (text : List ℕ) → is_some next ≡ true → told_next chosen next text it ≡ told_text chosen it (schema_answer text)
told_some chosen it None text is = cc
told_some chosen it (Some number) text is = refl

pub schema_next : (it : SavedStore) (next : Option ℕ) (text : List ℕ) (new : Resolved) (before : View) (stop : Stop Status) (after : View) (result : Status) → is_some next ≡ true → schema_answer text ≡ Ok new
    → result ≡ status_at stop → FollowsBoth (stored_behind it.graph) it.schema new (names_in it.text ++ names_in text) before stop after → TellsNext it next text before after result
schema_next it next text new before stop after result some is same p =
    let told = stored_told it.schema new (names_in it.text ++ names_in text) it.graph before stop after p in
    let says : told_next p.choice next text it ≡ told_stored it.graph p.choice.answers it.schema new = told_some p.choice it next text some ∙ ap (told_text p.choice it) is in
    subst (λ (s : Status). TellsNext it next text before after s) (sym same)
    (record {
      chosen = p.choice;
      right = subst (λ (answer : Result Resolved (List ℕ)). IsRightOf it.schema it.text text answer p.choice (status_at stop)) (sym is) p.right;
      answers = subst (λ (t : Told Status). AnswersText t before after (status_at stop)) (sym says) (answers_told (told_stored it.graph p.choice.answers it.schema new) before after (status_at stop) told);
      areas = told.areas;
    })
