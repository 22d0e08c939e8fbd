-- What a run of `load` leaves where both areas were free: at a stop, and at its end.
use Rattle.std.specs.Prelude.{◌≡◌, ◌⊎◌, ℕ, List, ◌++◌, IsTrue, Some, Ok}
use Rattle.pgs_base.specs.Graph.{empty_graph}
use Rattle.pgs_snapshot.specs.Choice.{chosen_area, chosen_epoch, chosen_next}
use Rattle.pgs_snapshot.specs.Saved.{saved, store, no_store}
use Rattle.pgs_syntax.specs.declared.resolved.Resolved.{Resolved}
use Rattle.pgs_world.specs.declared.area.Area.TheVariants.{A}
use Rattle.pgs_world.specs.World.{Triple, View}
use Rattle.pgs_command.specs.declared.status.Status.{Status}
use Rattle.pgs_command.specs.declared.status.Status.TheVariants.{Accepted, PutFault}
use Rattle.pgs_run_input.specs.Answers.{schema_answer}
use Rattle.pgs_run_input.specs.Session.{standard}
use Rattle.pgs_run_renewal.specs.LoadTold.{line_of}

-- the images save the empty store of this text, in area A and of epoch 1, in the second format: one record stands there, the next is 2
pub record IsNewStore (text : List ℕ) (triple : Triple) : Type 0 where
  pub saves : saved standard triple.a triple.b ≡ store text 0 empty_graph
  pub area : chosen_area triple.a triple.b ≡ Some A
  pub epoch : chosen_epoch triple.a triple.b ≡ Some 1
  pub next : chosen_next triple.a triple.b ≡ Some 2

-- They save nothing, or the new store; and this wherever the whole line of what was loaded is out behind the output that there was.
pub record IsLoadingAt (was : Triple) (text : List ℕ) (triple : Triple) : Type 0 where
  pub front : List ℕ
  pub out : triple.output ≡ was.output ++ front
  pub state : (saved standard triple.a triple.b ≡ no_store) ⊎ IsNewStore text triple
  pub loaded : (schema : Resolved) → schema_answer text ≡ Ok schema → front ≡ line_of schema → IsNewStore text triple

-- they save nothing, or the empty store of some text that is a schema
abbrev pub IsLoading : Triple → Type 0
IsLoading triple =
    (saved standard triple.a triple.b ≡ no_store)
    ⊎ ((text : List ℕ) × (schema : Resolved) × (schema_answer text ≡ Ok schema) × IsNewStore text triple)

-- where both areas were free, the store was made: the line of what was loaded was put, or its put failed
abbrev pub IsMade : List ℕ → Status → Type 0
IsMade text Accepted = Unit {0}
IsMade text PutFault = (schema : Resolved) × (schema_answer text ≡ Ok schema)
IsMade text status = ⊥

-- the world tells its bytes where the text is a schema; what is told of a text that isn't rests on no area
abbrev pub TellsFor : List ℕ → View → Type 0
TellsFor text view = (schema : Resolved) → schema_answer text ≡ Ok schema → IsTrue view.tells_bytes
