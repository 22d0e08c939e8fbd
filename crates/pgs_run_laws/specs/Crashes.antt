-- A crash inside a run, and runs behind it: the store after the first changes of the run, which are those whose lines are out, or one more.
use Rattle.std.specs.Prelude.{◌≡◌, ◌⊎◌, ℕ, ◌+◌, ◌≤◌, true, List, [], ◌∷◌, ◌++◌, length, IsTrue, Some, Ok}
use Rattle.std.specs.List.{concat}
use Rattle.pgs_answer.specs.Lines.{checkpoint_line}
use Rattle.pgs_feed.specs.Places.{Place, lost_count}
use Rattle.pgs_run_lines.specs.Pieces.{ShowsAll, shown_of}
use Rattle.pgs_run_lines.specs.declared.budget.TheConstants.{BUDGET}
use Rattle.pgs_snapshot.specs.Choice.{chosen_epoch}
use Rattle.pgs_snapshot.specs.Saved.{saved, no_store}
use Rattle.pgs_syntax.specs.declared.resolved.Resolved.{Resolved}
use Rattle.pgs_run_words.specs.declared.command.Command.{Command}
use Rattle.pgs_run_words.specs.declared.command.Command.TheVariants.{Apply, Checkpoint, Evolve}
use Rattle.pgs_run_words.specs.Words.{command_of}
use Rattle.pgs_world.specs.World.{Triple, View}
use Rattle.pgs_command.specs.declared.status.Status.{Status}
use Rattle.pgs_command.specs.Promise.{Runs}
use Rattle.pgs_command.specs.Setting.{SourceState}
use Rattle.pgs_run_input.specs.Answers.{schema_answer}
use Rattle.pgs_run_input.specs.Session.{standard}
use Rattle.pgs_run_apply.specs.Run.{Saves}
use Rattle.pgs_run_apply.specs.Told.{after, verdicts, all_lines, lost_pieces}
use Rattle.pgs_run_renewal.specs.EvolveTold.{line_of as evolved_line_of}
use Rattle.pgs_run_store.specs.Refusing.{SavedStore}
use Rattle.pgs_run.specs.Commands.{spec_for, spec_of}
use Rattle.pgs_run_laws.specs.Sequence.{Applied, Deed, DoAll, Evolved, Renewed, told_deeds, under_text}

-- a world that tells its bytes saves this store, of this epoch
pub record Stands (it : SavedStore) (epoch : ℕ) (view : View) : Type 0 where
  pub saves : Saves it view.shown
  pub epoch_is : chosen_epoch view.shown.a view.shown.b ≡ Some epoch
  pub tells : IsTrue view.tells_bytes

-- a world that tells its bytes shows the images that a crash left
pub record ShowsImages (crash : Triple) (view : View) : Type 0 where
  pub tells : IsTrue view.tells_bytes
  pub a : view.shown.a ≡ crash.a
  pub b : view.shown.b ≡ crash.b

-- A run of this command, over a source that told this input where it is read, led from the one view of a world to the other and ended
-- with any status; what a crash inside it leaves is left at one of its moments. So many feeds were lost at its end.
pub record RanInto (command : Command) (input : List ℕ) (lost : ℕ) (old new : View) : Type 0 where
  pub words : List (List ℕ)
  pub named : command_of words ≡ Some command
  pub source_before : SourceState
  pub source_now : SourceState
  pub places_before : List Place
  pub places_now : List Place
  pub status : Status
  pub kept : Runs (spec_for words) BUDGET (record { source = source_before; view = old; places = places_before })
      (record { source = source_now; view = new; places = places_now }) status
  pub source : (spec_of command).reads_source ≡ true → source_before.left ≡ Some input
  pub lost_is : lost_count places_now ≡ lost

-- a run of this kind
abbrev pub DoesInto : Deed → View → View → Type 0
DoesInto (Applied input lost) old new = RanInto Apply input lost old new
DoesInto Renewed old new = (input : List ℕ) × (lost : ℕ) × RanInto Checkpoint input lost old new
DoesInto (Evolved input) old new = (lost : ℕ) × RanInto Evolve input lost old new

-- the store after some lines, each decided on the graph after the accepted ones before it
abbrev pub after_lines : SavedStore → List (List ℕ) → SavedStore
after_lines it lines = let at = after it lines in record { text = it.text; schema = it.schema; commits = at.commits; graph = at.graph }

-- what lines tell of which these are the ones behind: the line of lost feeds comes behind all of them
abbrev pub lost_behind : (more : List (List ℕ)) → ℕ → List (List ℕ)
lost_behind [] lost = lost_pieces lost
lost_behind (line ∷ more) lost = []

-- what is out behind the output that there was is a front of these pieces
pub record IsFrontOf (pieces : List (List ℕ)) (was crash : Triple) : Type 0 where
  pub front : List ℕ
  pub back : List ℕ
  pub parts : concat pieces ≡ front ++ back
  pub out : crash.output ≡ was.output ++ front

-- what lines tell is out whole behind the output that there was, but for what the last of them tells
pub record IsOutButLast (it : SavedStore) (lines : List (List ℕ)) (was crash : Triple) : Type 0 where
  pub before : List (List ℕ)
  pub last : List (List ℕ)
  pub parts : lines ≡ before ++ last
  pub at_most_one : length last ≤ 1
  pub behind : List ℕ
  pub out : crash.output ≡ was.output ++ (concat (verdicts it before) ++ behind)

-- `apply`: the store after the first lines. All that is out is of what these tell, and all of it is out but for what the last of them tells.
pub record LeavesLines (it : SavedStore) (epoch : ℕ) (input : List ℕ) (lost : ℕ) (was crash : Triple) (now : SavedStore) (later : ℕ) : Type 0 where
  pub until : List (List ℕ)
  pub more : List (List ℕ)
  pub parts : all_lines input ≡ until ++ more
  pub out : IsFrontOf (verdicts it until ++ lost_behind more lost) was crash
  pub all_out : IsOutButLast it until was crash
  pub store : now ≡ after_lines it until
  pub same_epoch : later ≡ epoch

-- `checkpoint`: the same store, of the same epoch or the next one, and of the next one where the line says so; the last epoch has no next
pub record LeavesEpoch (it : SavedStore) (epoch : ℕ) (was crash : Triple) (now : SavedStore) (later : ℕ) : Type 0 where
  pub store : now ≡ it
  pub either : (later ≡ epoch) ⊎ (later ≡ epoch + 1)
  pub told : (epoch ≡ 16777215 → ⊥) → crash.output ≡ was.output ++ checkpoint_line (epoch + 1) it.commits → later ≡ epoch + 1

-- `evolve`: the store as it was, or under the new schema, and under it where its line is out
pub record LeavesSchema (it : SavedStore) (epoch : ℕ) (input : List ℕ) (was crash : Triple) (now : SavedStore) (later : ℕ) : Type 0 where
  pub either : (now ≡ it) ⊎ (now ≡ under_text it input (schema_answer input))
  pub told : (schema : Resolved) → schema_answer input ≡ Ok schema → crash.output ≡ was.output ++ evolved_line_of schema
      → now ≡ under_text it input (schema_answer input)
  pub same_epoch : later ≡ epoch

-- what a crash inside a run left, which began on this store of this epoch
abbrev pub Leaves : Deed → SavedStore → ℕ → (was crash : Triple) → SavedStore → ℕ → Type 0
Leaves (Applied input lost) it epoch was crash now later = LeavesLines it epoch input lost was crash now later
Leaves Renewed it epoch was crash now later = LeavesEpoch it epoch was crash now later
Leaves (Evolved input) it epoch was crash now later = LeavesSchema it epoch input was crash now later

-- a crash inside `load` left nothing, and the line of what was loaded isn't out
pub record LeavesNone (line : List ℕ) (was crash : Triple) : Type 0 where
  pub none : saved standard crash.a crash.b ≡ no_store
  pub untold : crash.output ≡ was.output ++ line → ⊥

-- the world begins with this store, of the first epoch, and runs over it print what deciding their inputs from that store on prints
pub record IsBegun {W : Type 0} (view : W → View) (it : SavedStore) (deeds : List Deed) (fresh last : W) : Type 0 where
  pub stands : Stands it 1 (view fresh)
  pub shown : DoAll view deeds fresh last → ShowsAll (shown_of (view fresh)) (told_deeds it 1 deeds) (shown_of (view last))
