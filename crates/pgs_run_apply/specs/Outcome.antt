-- What lines come to, one after another, and how far the taking of one came.
use Rattle.std.specs.Prelude.{◌≡◌, ◌⊎◌, ℕ, ◌+◌, Bool, true, false, List, [], ◌∷◌, ◌++◌, length, Option, Some, None, Result, Ok, Err, IfErr, OnOk, IsTrue, if◌then◌else◌}
use Rattle.pgs_base.specs.Graph.{Graph}
use Rattle.pgs_feed.specs.Deliveries.{AreDelivered, Delivery, ListKind, behind, lines_in}
use Rattle.pgs_feed.specs.Given.{AreGiven}
use Rattle.pgs_graph.specs.declared.operation.Txn.{Txn}
use Rattle.pgs_run_lines.specs.declared.stop.Stop.{Stop}
use Rattle.pgs_run_lines.specs.declared.stop.Stop.TheVariants as stops
use Rattle.pgs_run_lines.specs.Driving.{LineShows}
use Rattle.pgs_run_lines.specs.Ending.{HasAnyCause, faults_of}
use Rattle.pgs_run_lines.specs.Machine.{Scene}
use Rattle.pgs_run_lines.specs.Pieces.{Shown, ShowsAll, shown_of}
use Rattle.pgs_store.specs.Stored.{IsSavedIn}
use Rattle.pgs_violation.specs.declared.rejection.Rejection.{Rejection}
use Rattle.pgs_violation.specs.Violations.{verdict}
use Rattle.pgs_world.specs.Moment.{EachSince, Passes}
use Rattle.pgs_world.specs.World.{Triple, other}
use Rattle.pgs_answer.specs.Lines.{committed_line, refused_line, feed_line}
use Rattle.pgs_answer.specs.Refusals.{rejection_text}
use Rattle.pgs_command.specs.declared.status.Status.{Status}
use Rattle.pgs_command.specs.Images.{KeepsArea}
use Rattle.pgs_run_input.specs.Answers.{txn_answer}
use Rattle.pgs_run_input.specs.Input.{is_skipped}
use Rattle.pgs_run_input.specs.Session.{standard, decision_on}
use Rattle.pgs_run_apply.specs.State.{ApplyState, HoldsStore, with_refusal, with_commit}

-- the state after lines, what they tell, and what they give to feeds, behind how many of these pieces
pub record Outcome : Type 0 where
  pub state : ApplyState
  pub pieces : List (List ℕ)
  pub given : List Delivery

-- the outcome of a line that is skipped, of a refusal, of a decision on a transaction, and of what a line that isn't skipped says
abbrev pub skipping : ApplyState → Outcome
skipping s = record { state = s; pieces = []; given = [] }

abbrev pub refusing : ApplyState → List ℕ → Outcome
refusing s text = record { state = with_refusal s; pieces = refused_line (s.number + 1) text ∷ []; given = [] }

abbrev pub deciding : ApplyState → Txn → Result Graph Rejection → Outcome
deciding s txn (Ok g) = record {
  state = with_commit s txn g;
  pieces = committed_line (s.number + 1) (s.guard.commits + 1) ∷ [];
  given = (record { line = feed_line txn (s.guard.commits + 1); puts = 0 }) ∷ [];
}
deciding s txn (Err rejection) = refusing s (rejection_text rejection standard)

abbrev pub answering : ApplyState → Result Txn (List ℕ) → Outcome
answering s (Ok txn) = deciding s txn (decision_on (verdict s.guard.schema) s.guard.graph txn)
answering s (Err text) = refusing s text

-- the outcome of a line
unfoldable pub outcome_of : ApplyState → List ℕ → Outcome
outcome_of s line = if is_skipped line then skipping s else answering s (txn_answer line)

-- one outcome, and then one from its state on
abbrev pub and_then : Outcome → Outcome → Outcome
and_then o p = record { state = p.state; pieces = o.pieces ++ p.pieces; given = o.given ++ behind (length o.pieces) p.given }

-- the outcome of lines
abbrev pub outcome_of_all : ApplyState → List (List ℕ) → Outcome
outcome_of_all s [] = skipping s
outcome_of_all s (line ∷ lines) = and_then (outcome_of s line) (outcome_of_all (outcome_of s line).state lines)

-- ---- what a stop leaves

-- the images hold the store of this state, and this output is out, where that is told
abbrev pub IsSavedAt : ApplyState → (told : Bool) → (output : List ℕ) → Triple → Type 0
IsSavedAt s told output triple = (IsTrue told → triple.output ≡ output) × IsSavedIn s.guard s.journal triple

-- they hold the store after the line, and behind this output a front of its piece is out
pub record IsPast (o : Outcome) (told : Bool) (output : List ℕ) (triple : Triple) : Type 0 where
  pub front : List ℕ
  pub back : List ℕ
  pub piece : o.pieces ≡ (front ++ back) ∷ []
  pub saved : IsSavedAt o.state told (output ++ front) triple

-- during the taking of a line: all as it was, or the store after the line
abbrev pub IsLeftBy : ApplyState → Outcome → (told : Bool) → (output : List ℕ) → Triple → Type 0
IsLeftBy s o told output triple = IsSavedAt s told output triple ⊎ IsPast o told output triple

-- ---- how far lines were taken, by what stopped it

abbrev pub is_struck : Option (Stop Status) → Bool
is_struck (Some stops.DiskFault) = true
is_struck stop = false

abbrev pub is_torn : Option (Stop Status) → Bool
is_torn (Some stops.PutFault) = true
is_torn stop = false

-- each piece was put, or the put of the last one failed
abbrev pub HasPut : (torn : Bool) → Shown → List (List ℕ) → Shown → Type 0
HasPut false start pieces now = ShowsAll start pieces now
HasPut true start pieces now = now.puts + 1 ≡ start.puts + length pieces

-- This outcome was reached: unless an area failed the store stands on the world, the pieces were put, and feeds were given the lines, each
-- behind its number of pieces.
pub record IsReached (kind : ListKind) (o : Outcome) (stop : Option (Stop Status)) (old new : Scene kind.Feeds) : Type 0 where
  pub holds : is_struck stop ≡ false → HoldsStore o.state new.view
  pub put : HasPut (is_torn stop) (shown_of old.view) o.pieces (shown_of new.view)
  pub given : AreGiven (lines_in o.given) (kind.places old.kept) (kind.places new.kept)
  pub delivered : AreDelivered kind old.kept (behind old.view.puts o.given) new.kept

abbrev pub stop_of : {T : Type 0} → Result T (Stop Status) → Option (Stop Status)
stop_of (Ok done) = None
stop_of (Err stop) = Some stop

-- what a line came to whose outcome is this: nothing, where the world or the memory failed before its put
abbrev pub come_to : ApplyState → Outcome → Option (Stop Status) → Outcome
come_to s o None = o
come_to s o (Some (stops.Ended status)) = o
come_to s o (Some stops.PutFault) = o
come_to s o (Some stop) = skipping s

-- what stops the taking of a line: a call on the world that failed, or want of memory
abbrev pub IsFault : Stop Status → Type 0
IsFault (stops.Ended status) = ⊥
IsFault stops.ReadFault = ⊥
IsFault stop = Unit {0}

-- the taking of a line of this outcome from a state on
pub record Takes {T : Type 0} (kind : ListKind) (s : ApplyState) (o : Outcome) (result : Result T (Stop Status)) (now : ApplyState)
    (old new : Scene kind.Feeds) : Type 0 where
  pub passes : Passes old.view new.view
  pub leads : OnOk result (now ≡ o.state)
  pub shows : LineShows (shown_of old.view) o.pieces result (shown_of new.view)
  pub cause : HasAnyCause (faults_of 0 old.view) (faults_of 0 new.view) result
  pub may : IfErr result IsFault
  pub reached : IsReached kind (come_to s o (stop_of result)) (stop_of result) old new
  -- at every moment
  pub stops : IsTrue old.view.honest → IsTrue old.view.tells_bytes
      → EachSince (IsLeftBy s o old.view.tells_output old.view.shown.output) old.view new.view
  pub beside : KeepsArea (other s.journal.area) old.view new.view
