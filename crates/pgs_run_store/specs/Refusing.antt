-- What is told where a command needs a saved store: its own pieces, or the one line of what two areas are refused for.
use Rattle.std.specs.Prelude.{ℕ, List, [], ◌∷◌, Result, Ok, Err}
use Rattle.pgs_base.specs.Graph.{Graph}
use Rattle.pgs_run_lines.specs.Machine.{Told}
use Rattle.pgs_syntax.specs.declared.resolved.Resolved.{Resolved}
use Rattle.pgs_answer.specs.Lines.{schema_refused_line, store_refused_line}
use Rattle.pgs_answer.specs.Refusals.{no_store_text, foreign_text, bad_record_text, bad_history_text}
use Rattle.pgs_command.specs.declared.status.Status.{Status}
use Rattle.pgs_command.specs.declared.status.Status.TheVariants.{SchemaRefused, StoreRefused}
use Rattle.pgs_run_input.specs.Answers.{schema_or_text, schema_answer}
use Rattle.pgs_command.specs.Areas.{Areas}
use Rattle.pgs_run_input.specs.Session.{standard}
use Rattle.pgs_snapshot.specs.Saved.{SavedState, saved}
use Rattle.pgs_snapshot.specs.Saved as states

-- what is saved: the schema's text and the schema, the number of commits, and the graph
pub record SavedStore : Type 0 where
  pub text : List ℕ
  pub schema : Resolved
  pub commits : ℕ
  pub graph : Graph

abbrev pub store_refused : List ℕ → Told Status
store_refused text = record { pieces = store_refused_line text ∷ []; status = StoreRefused }

abbrev pub schema_refused : List ℕ → Told Status
schema_refused text = record { pieces = schema_refused_line text ∷ []; status = SchemaRefused }

-- what is told of a schema's text, by what is told of its schema
abbrev pub told_under : Result Resolved (List ℕ) → (Resolved → Told Status) → Told Status
told_under (Ok schema) go = go schema
told_under (Err text) go = schema_refused text

-- what is told of what two areas save, by what is told of a store; a text that is refused has no schema
abbrev pub told_saved : SavedState → (SavedStore → Told Status) → Told Status
told_saved states.foreign go = store_refused foreign_text
told_saved states.no_store go = store_refused no_store_text
told_saved (states.bad_record number) go = store_refused (bad_record_text number)
told_saved (states.bad_schema answer) go = told_under (schema_or_text answer) (λ schema. store_refused no_store_text)
told_saved (states.bad_history number rejection) go = store_refused (bad_history_text number rejection standard)
told_saved (states.store text commits graph) go =
    told_under (schema_answer text) (λ schema. go (record { text = text; schema = schema; commits = commits; graph = graph }))

-- the same of the two areas, within the limits of the program
unfoldable pub told_of_areas : Areas → (SavedStore → Told Status) → Told Status
told_of_areas areas go = told_saved (saved standard areas.a areas.b) go
