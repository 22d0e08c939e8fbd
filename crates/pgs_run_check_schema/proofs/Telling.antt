-- What putting lines does, by what its calls did.
use Rattle.std.proofs.Common.{◌≡◌, ℕ, List, Result, Ok, Err, refl}
use Rattle.pgs_run_lines.specs.AreasKept.{KeepsAreas, keeps_none}
use Rattle.pgs_run_lines.specs.Ending.{faults_of, PutsRose}
use Rattle.pgs_run_lines.specs.Machine.{Told}
use Rattle.pgs_run_lines.specs.Pieces.{shown_of, ShowsAll, ShowsTorn}
use Rattle.pgs_run_lines.proofs.Causes.{world_same}
use Rattle.pgs_world.specs.Moment.{IsTimed}
use Rattle.pgs_world.specs.World.{View}
use Rattle.pgs_command.specs.declared.status.Status.{Status}
use Rattle.pgs_command.specs.declared.status.Status.TheVariants.{Accepted, Refused, PutFault, Memory}
use Rattle.pgs_run_input.proofs.OneLine.{answers_none, silent_none}
use Rattle.pgs_syntax.specs.declared.resolved.Resolved.{Resolved}
use Rattle.pgs_run_input.specs.Answers.{schema_answer}
use Rattle.pgs_run_check_schema.specs.Spec.{IsOfCheck, Tells, TellsText}
use Rattle.pgs_run_check_schema.specs.Told.{IsRightOf, HasLines, nothing_chosen, told_text}

-- for want of memory
pub tells_none : (told : Told Status) (view : View) → IsTimed view → Tells told view view Memory
tells_none told view timed = record { answers = answers_none told view view (silent_none view); may_end = tt; areas = keeps_none view timed }

-- all was put
pub tells_accepted : (told : Told Status) (old new : View) → ShowsAll (shown_of old) told.pieces (shown_of new) → told.status ≡ Accepted
    → faults_of 0 new ≡ faults_of 0 old → KeepsAreas old new → Tells told old new Accepted
tells_accepted told old new shows is same areas = record {
  answers = record { ends = (shows, is); may_end = tt; cause = λ reads count. world_same count count old new refl same };
  may_end = tt;
  areas = areas;
}

pub tells_refused : (told : Told Status) (old new : View) → ShowsAll (shown_of old) told.pieces (shown_of new) → told.status ≡ Refused
    → faults_of 0 new ≡ faults_of 0 old → KeepsAreas old new → Tells told old new Refused
tells_refused told old new shows is same areas = record {
  answers = record { ends = (shows, is); may_end = tt; cause = λ reads count. world_same count count old new refl same };
  may_end = tt;
  areas = areas;
}

-- a put failed
pub tells_torn : (told : Told Status) (old new : View) → ShowsTorn (shown_of old) told.pieces (shown_of new)
    → PutsRose (faults_of 0 old) (faults_of 0 new) → KeepsAreas old new → Tells told old new PutFault
tells_torn told old new shows cause areas = record {
  answers = record { ends = shows; may_end = tt; cause = λ reads count. (cause.0, refl, cause.2) };
  may_end = tt;
  areas = areas;
}

-- where no line may have been put nothing may be chosen
pub right_none : (text : List ℕ) (answer : Result Resolved (List ℕ)) (status : Status) → (HasLines status → ⊥) → IsRightOf text answer nothing_chosen status
right_none text (Ok resolved) status none = λ lines. absurd (none lines)
right_none text (Err refusal) status none = tt

-- of a text, for want of memory
pub text_none : (text : List ℕ) (view : View) → IsTimed view → TellsText text view view Memory
text_none text view timed = record { chosen = nothing_chosen; right = right_none text (schema_answer text) Memory (λ none. none); tells = tells_none (told_text nothing_chosen text) view timed }
