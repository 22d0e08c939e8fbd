-- What a run of `evolve`, and what is done with its text, leave of the world at every moment and at its end.
use Rattle.std.specs.Prelude.{◌≡◌, ℕ, false, List, [], Option, Some, None, Ok, IsTrue}
use Rattle.pgs_base.specs.Graph.{Graph}
use Rattle.pgs_run_lines.specs.Machine.{Told}
use Rattle.pgs_run_lines.specs.Pieces.{ShowsAll, shown_of}
use Rattle.pgs_command.specs.declared.status.Status.{Status}
use Rattle.pgs_command.specs.declared.status.Status.TheVariants.{Accepted, DiskFault, PutFault}
use Rattle.pgs_run_input.specs.Answers.{schema_answer}
use Rattle.pgs_command.specs.Images.{IsUnwritten, KeepsArea, KeepsImages}
use Rattle.pgs_run_input.specs.Session.{standard}
use Rattle.pgs_run_input.specs.Text.{AnswersText}
pub use Rattle.pgs_run_store.specs.Spec.{IsUnput}
use Rattle.pgs_snapshot.specs.Choice.{chosen_area, chosen_next}
use Rattle.pgs_snapshot.specs.Saved.{saved, store}
use Rattle.pgs_store.specs.Stored.{StandsOn, StoreState}
use Rattle.pgs_syntax.specs.declared.resolved.Resolved.{Resolved}
use Rattle.pgs_violation.specs.declared.violation.Verdict.TheVariants.{Conforms}
use Rattle.pgs_violation.specs.Violations.{verdict}
use Rattle.pgs_world.specs.declared.area.Area.{Area}
use Rattle.pgs_world.specs.Moment.{EachSince, IsSettled, Passes}
use Rattle.pgs_world.specs.World.{View, other}
use Rattle.pgs_run_renewal.specs.Evolving.{Kept, IsEvolving, IsEvolvingAt, IsRenewed}

abbrev pub kept_of : View → ℕ → Graph → Kept
kept_of view commits graph = record { was = view.shown; commits = commits; graph = graph }

-- what two areas save at the start: this text, these commits and this graph
abbrev pub SavesAs : View → List ℕ → ℕ → Graph → Type 0
SavesAs view text commits graph = saved standard view.shown.a view.shown.b ≡ store text commits graph

-- the text is a schema to which the graph conforms
abbrev pub IsConforming : List ℕ → Graph → Type 0
IsConforming text graph = (schema : Resolved) × (schema_answer text ≡ Ok schema) × (verdict schema graph ≡ Conforms)

-- The schema is in force: its line was put, or its put failed. The put of a refusal fails too, and a store of the first format, which has
-- no next number, refuses every text.
abbrev pub IsMade : Option ℕ → List ℕ → Graph → Status → Type 0
IsMade next text graph Accepted = Unit {0}
IsMade next text graph PutFault = (number : ℕ) × (next ≡ Some number) × IsConforming text graph
IsMade next text graph status = ⊥

pub record LeavesEvolved (left : Option (List ℕ)) (old new : View) (status : Status) : Type 0 where
  pub passes : Passes old new
  -- at every moment the store is saved as it was or under the new text, and the latter wherever its whole line is out
  pub stops : (input before : List ℕ) (commits : ℕ) (graph : Graph) → left ≡ Some input → SavesAs old before commits graph
      → IsTrue old.tells_output → IsSettled old → EachSince (IsEvolvingAt (kept_of old commits graph) before input) old new
  -- the same whatever source and output tell
  pub grows : (before : List ℕ) (commits : ℕ) (graph : Graph) → SavesAs old before commits graph → IsSettled old
      → EachSince (IsEvolving (kept_of old commits graph) before) old new
  -- nothing is written where nothing is saved, where the chosen area is of the first format, and with most statuses
  pub unsaved : IsTrue old.tells_bytes → ((text : List ℕ) (commits : ℕ) (graph : Graph) → SavesAs old text commits graph → ⊥)
      → KeepsImages old new
  pub old_format : IsTrue old.tells_bytes → chosen_next old.shown.a old.shown.b ≡ None → KeepsImages old new
  pub unwritten : IsUnwritten status → KeepsImages old new
  -- nothing is written where the input isn't a schema to which the graph conforms
  pub refused : IsTrue old.tells_bytes → (input before : List ℕ) (commits : ℕ) (graph : Graph) → left ≡ Some input
      → SavesAs old before commits graph → (IsConforming input graph → ⊥) → KeepsImages old new
  -- the area that isn't chosen is left alone
  pub beside : IsTrue old.tells_bytes → (area : Area) → chosen_area old.shown.a old.shown.b ≡ Some area → KeepsArea (other area) old new
  -- at the end the new schema is in force, where its line was put, or its put failed
  pub made : IsTrue old.tells_bytes → (input before : List ℕ) (commits : ℕ) (graph : Graph) → left ≡ Some input
      → SavesAs old before commits graph → IsMade (chosen_next old.shown.a old.shown.b) input graph status
      → IsRenewed (kept_of old commits graph) input new.shown
  -- a fault of a read, want of memory and a cut come before the line is put
  pub unput : IsUnput status → ShowsAll (shown_of old) [] (shown_of new)

-- a store within the limits of the program, of which no call answered `DiskFault`, and which stands on the world
pub record IsEvolvable (it : StoreState) (view : View) : Type 0 where
  pub limits : it.guard.limits ≡ standard
  pub whole : it.failed ≡ false
  pub stands : StandsOn it.guard it.journal view

-- What is done with a text on an opened store: what is told of it is put, and what a run leaves whose input it is.
pub record EvolvesText (told : Told Status) (text : List ℕ) (old new : View) (status : Status) : Type 0 where
  pub answers : AnswersText told old new status
  pub leaves : LeavesEvolved (Some text) old new status
  pub settles : IsSettled old → (status ≡ DiskFault → ⊥) → IsSettled new
