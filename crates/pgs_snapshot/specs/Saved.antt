-- What is saved in two areas: the state of the chosen store, which is what its records lead to.
use Rattle.std.specs.Prelude.{ℕ, suc, ◌+◌, List, [], ◌∷◌, drop, Option, Some, None, Result, Ok, Err}
use Rattle.pgs_base.specs.declared.limits.Limits.{Limits}
use Rattle.pgs_base.specs.Graph.{Graph, empty_graph}
use Rattle.pgs_codec.specs.declared.command.Command.{Command}
use Rattle.pgs_codec.specs.declared.command.Command.TheVariants as commands
use Rattle.pgs_codec.specs.Encodable.{snapshot_graph}
use Rattle.pgs_codec.specs.Reading.{decoded}
use Rattle.pgs_resolve.specs.SchemaOf.{Answer, schema, schema_of}
use Rattle.pgs_violation.specs.declared.rejection.Rejection.{Rejection}
use Rattle.pgs_syntax.specs.declared.resolved.Resolved.{Resolved}
use Rattle.pgs_violation.specs.Decision.{judged, decide}
use Rattle.pgs_violation.specs.Violations.{verdict}
use Rattle.pgs_snapshot.specs.Choice.{Choice, choice_of}
use Rattle.pgs_snapshot.specs.Choice as choices

-- what is saved, or why nothing is: the first that applies
pub data SavedState : Type 0 where
  -- no area is a store, and one is another program's file
  foreign : SavedState
  -- no area is a store
  no_store : SavedState
  -- the chosen store is damaged at this record
  bad_record : (number : ℕ) → SavedState
  -- the first record that can't be taken is a schema's whose text is no schema
  bad_schema : Answer → SavedState
  -- this record is the first that can't be taken: its graph, its transaction, or the graph so far under its schema is rejected
  bad_history : (number : ℕ) → Rejection → SavedState
  -- the text of the last schema, the number of commits, and the graph
  store : (text : List ℕ) (commits : ℕ) (graph : Graph) → SavedState

-- a schema in force and its text, and a graph after so many commits
pub record Replayed : Type 0 where
  pub text : List ℕ
  pub schema : Resolved
  pub commits : ℕ
  pub graph : Graph

-- why a record isn't taken
pub data RecordFault : Type 0 where
  -- its text is no schema
  refused : Answer → RecordFault
  -- its graph, its transaction, or the graph so far under its schema is rejected
  rejected : Rejection → RecordFault

-- what some records lead to, or the number of the first that isn't taken, and why
abbrev pub History : Type 0
History = Result Replayed (ℕ × RecordFault)

-- the same with a graph that is accepted
abbrev pub taken : Replayed → Result Graph Rejection → Result Replayed RecordFault
taken after (Ok graph) = Ok (record after { graph = graph })
taken after (Err rejection) = Err (rejected rejection)

-- a later schema: the graph so far is judged under it
abbrev pub under_schema : Limits → Replayed → List ℕ → Answer → Result Replayed RecordFault
under_schema limits before text (schema resolved) =
    taken (record before { text = text; schema = resolved }) (judged limits (verdict resolved) before.graph)
under_schema limits before text answer = Err (refused answer)

-- a record behind the first: a transaction is decided, the graph of a snapshot is judged, and so is the graph so far under a later schema
abbrev pub after_record : Limits → Replayed → Option Command → Result Replayed RecordFault
after_record limits before (Some (commands.Txn txn)) =
    taken (record before { commits = before.commits + 1 }) (decide limits (verdict before.schema) before.graph txn)
after_record limits before (Some (commands.Snapshot commits nodes edges)) =
    taken (record before { commits = commits }) (judged limits (verdict before.schema) (snapshot_graph nodes edges))
after_record limits before (Some (commands.Schema text)) = under_schema limits before text (schema_of text)
after_record limits before None = Ok before

-- the record of this number, and then the others, where it is taken
abbrev pub and_then : ℕ → Result Replayed RecordFault → (Replayed → History) → History
and_then number (Ok after) go = go after
and_then number (Err fault) go = Err (number, fault)

-- what these records lead to, the first of them of this number
abbrev pub replay : Limits → ℕ → Replayed → List (List ℕ) → History
replay limits number before [] = Ok before
replay limits number before (payload ∷ payloads) =
    and_then number (after_record limits before (decoded payload)) (λ after. replay limits (suc number) after payloads)

-- the text of a schema's record
abbrev pub text_in : Option Command → List ℕ
text_in (Some (commands.Schema text)) = text
text_in command = []

-- the text of the first record
abbrev pub text_of : List (List ℕ) → List ℕ
text_of [] = []
text_of (payload ∷ payloads) = text_in (decoded payload)

-- a first schema, no commit and no element
abbrev pub start : List ℕ → Resolved → Replayed
start text resolved = record { text = text; schema = resolved; commits = 0; graph = empty_graph }

abbrev pub saved_fault : ℕ → RecordFault → SavedState
saved_fault number (refused answer) = bad_schema answer
saved_fault number (rejected rejection) = bad_history number rejection

abbrev pub saved_history : History → SavedState
saved_history (Ok after) = store after.text after.commits after.graph
saved_history (Err fault) = saved_fault fault.0 fault.1

-- what these records behind the first schema's text save, by what is said of the text
abbrev pub saved_under : Limits → List ℕ → List (List ℕ) → Answer → SavedState
saved_under limits text payloads (schema resolved) = saved_history (replay limits 2 (start text resolved) payloads)
saved_under limits text payloads answer = bad_schema answer

-- what the records of a store save
unfoldable pub saved_of : Limits → List (List ℕ) → SavedState
saved_of limits payloads = saved_under limits (text_of payloads) (drop 1 payloads) (schema_of (text_of payloads))

abbrev pub saved_by : Limits → Choice → SavedState
saved_by limits choices.foreign = foreign
saved_by limits choices.no_store = no_store
saved_by limits (choices.damaged area epoch number) = bad_record number
saved_by limits (choices.chosen area epoch end next payloads) = saved_of limits payloads

-- what is saved in two images
unfoldable pub saved : Limits → List ℕ → List ℕ → SavedState
saved limits a b = saved_by limits (choice_of a b)
