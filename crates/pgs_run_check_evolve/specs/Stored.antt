-- What `evolve` over a saved store tells of an input within a budget and of two areas: the saved schema is the old one. It is refused as the
-- guard's `evolve` refuses, and behind the refusal of a text comes its cause; else it tells what the step changes, and, where the step isn't safe,
-- what in the saved graph the new schema doesn't allow.
use Rattle.std.specs.Prelude.{◌≡◌, ℕ, Bool, List, [], ◌∷◌, ◌++◌, length, map, Option, Some, None, Result, Ok, Err, IsTrue, nat_le, if◌then◌else◌}
use Rattle.pgs_base.specs.Graph.{Graph}
use Rattle.pgs_answer.specs.Lines.{schema_refused_line}
use Rattle.pgs_answer.specs.Refusals.{old_format_text}
use Rattle.pgs_run_lines.specs.AreasKept.{KeepsAreas}
use Rattle.pgs_run_lines.specs.Machine.{Told}
use Rattle.pgs_syntax.specs.declared.resolved.Resolved.{Resolved}
use Rattle.pgs_violation.specs.Violations.{conforms, violations}
use Rattle.pgs_world.specs.World.{View}
use Rattle.pgs_command.specs.declared.status.Status.{Status}
use Rattle.pgs_command.specs.declared.status.Status.TheVariants.{Accepted, SchemaRefused, InputTooLong}
use Rattle.pgs_command.specs.Areas.{Areas}
use Rattle.pgs_command.specs.Setting.{Setting}
use Rattle.pgs_schema_changes.specs.Safe.{is_safe}
use Rattle.pgs_snapshot.specs.Choice.{chosen_next}
use Rattle.pgs_snapshot.specs.Saved.{saved, store}
use Rattle.pgs_run_input.specs.Answers.{schema_answer}
use Rattle.pgs_run_input.specs.Session.{standard}
use Rattle.pgs_run_input.specs.Text.{AnswersText}
use Rattle.pgs_run_try.specs.Told.{listed_line}
use Rattle.pgs_run_refusal.specs.Refused.{IsCause}
use Rattle.pgs_run_contain.specs.Answers.{Answer}
use Rattle.pgs_run_contain.specs.Behind.{Behind}
use Rattle.pgs_run_contain.specs.Names.{names_in}
use Rattle.pgs_run_store.specs.Refusing.{SavedStore, store_refused, told_of_areas}
use Rattle.pgs_run_check_evolve.specs.Told.{Chosen, nothing_chosen, all_contained, status_by, told_changes, AreRightly}

-- the lines of what the new schema doesn't allow, where the step isn't safe
abbrev pub violation_lines : Bool → Resolved → Graph → List (List ℕ)
violation_lines safe new graph = if safe then [] else map listed_line (violations new graph)

-- what is told of the saved schema, a new one and the saved graph: the status is 0 where the graph conforms to the new one
abbrev pub told_stored : Graph → Option (List Answer) → Resolved → Resolved → Told Status
told_stored graph None old new = record { pieces = []; status = Accepted }
told_stored graph (Some answers) old new = record {
  pieces = (told_changes (Some answers) old new).pieces ++ violation_lines (is_safe old new (all_contained answers)) new graph;
  status = status_by (conforms new graph);
}

-- behind both schemas, over this graph
abbrev pub stored_behind : Graph → Behind
stored_behind graph = record {
  Choice = Chosen;
  none = nothing_chosen;
  told = λ chosen. told_stored graph chosen.answers;
  IsRight = λ chosen. AreRightly chosen.answers;
  cause = λ chosen. chosen.cause;
  IsCause = λ chosen text. IsCause text chosen.cause;
}

-- what is told of a text by its answer: of its schema, or the line of its refusal and those of the cause
abbrev pub told_text : Chosen → SavedStore → Result Resolved (List ℕ) → Told Status
told_text chosen it (Ok new) = told_stored it.graph chosen.answers it.schema new
told_text chosen it (Err refusal) = record { pieces = schema_refused_line refusal ∷ chosen.cause; status = SchemaRefused }

-- the same over a store with this next number; a store of the first format has none, and no later schemas
abbrev pub told_next : Chosen → Option ℕ → List ℕ → SavedStore → Told Status
told_next chosen None text it = store_refused old_format_text
told_next chosen (Some number) text it = told_text chosen it (schema_answer text)

-- the whole input is the text; where it is cut nothing of it is judged
abbrev pub told_within : Chosen → List ℕ → ℕ → Option ℕ → SavedStore → Told Status
told_within chosen input budget next it =
    if nat_le budget (length input) then record { pieces = []; status = InputTooLong } else told_next chosen next input it

-- the areas are judged first, and then the input
unfoldable pub told_evolve_store : Chosen → List ℕ → Areas → ℕ → Told Status
told_evolve_store chosen input areas budget =
    told_of_areas areas (λ (it : SavedStore). told_within chosen input budget (chosen_next areas.a areas.b) it)

-- The answers are right for the saved schema and that of a text. Of a text that is refused there is at most one line of the cause, which is of a
-- place within it.
abbrev pub IsRightOf : (was : Resolved) (saved text : List ℕ) → Result Resolved (List ℕ) → Chosen → Status → Type 0
IsRightOf was saved text (Ok new) chosen status = AreRightly chosen.answers was new (names_in saved ++ names_in text) status
IsRightOf was saved text (Err refusal) chosen status = IsCause text chosen.cause

-- so they are for the schema that is saved and the input
abbrev pub AnswersStored : Chosen → Setting → (budget : ℕ) → Status → Type 0
AnswersStored chosen old budget status =
    (input text : List ℕ) (commits : ℕ) (graph : Graph) → old.source.left ≡ Some input → IsTrue old.view.tells_bytes
    → saved standard old.view.shown.a old.view.shown.b ≡ store text commits graph
    → (was : Resolved) → schema_answer text ≡ Ok was → IsRightOf was text input (schema_answer input) chosen status

-- what is told of a text over an opened store was put, by what is right, and both areas stay
pub record TellsNext (it : SavedStore) (next : Option ℕ) (text : List ℕ) (old new : View) (status : Status) : Type 0 where
  pub chosen : Chosen
  pub right : IsRightOf it.schema it.text text (schema_answer text) chosen status
  pub answers : AnswersText (told_next chosen next text it) old new status
  pub areas : KeepsAreas old new
