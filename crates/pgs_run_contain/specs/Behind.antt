-- A command over two schema texts, by what follows them: both texts are read as `contain` reads them, and behind two schemas, or behind a text
-- that is refused, the command tells by a choice of its own.
use Rattle.std.specs.Prelude.{◌≡◌, ℕ, true, List, [], ◌++◌, Option, Some}
use Rattle.pgs_run_lines.specs.declared.stop.Stop.{Stop}
use Rattle.pgs_run_lines.specs.declared.stop.Stop.TheVariants as stops
use Rattle.pgs_run_lines.specs.AreasKept.{KeepsAreas}
use Rattle.pgs_run_lines.specs.Ending.{Ends, HasCause, faults_of}
use Rattle.pgs_run_lines.specs.Machine.{Told}
use Rattle.pgs_run_lines.specs.May.{MayCome, MayPut}
use Rattle.pgs_run_lines.specs.Pieces.{shown_of}
use Rattle.pgs_run_lines.specs.Run.{EndsAs, EndsBy}
use Rattle.pgs_syntax.specs.declared.resolved.Resolved.{Resolved}
use Rattle.pgs_world.specs.World.{View}
use Rattle.pgs_command.specs.declared.status.Status.{Status}
use Rattle.pgs_command.specs.declared.status.Status.TheVariants as statuses
use Rattle.pgs_command.specs.Answers.{IsOfCommand}
use Rattle.pgs_command.specs.Ending.{status_at}
use Rattle.pgs_command.specs.Kept.{without_areas}
use Rattle.pgs_command.specs.Setting.{SourceState, Setting, faults_in}
use Rattle.pgs_command.specs.Spec.{CommandSpec}
use Rattle.pgs_run_contain.specs.declared.ending.Ending.{Ending}
use Rattle.pgs_run_contain.specs.declared.ending.Ending.TheVariants as endings
use Rattle.pgs_run_contain.specs.Comparing.{comparing}
use Rattle.pgs_run_contain.specs.Names.{Names}
use Rattle.pgs_run_contain.specs.Running.{PutsNothing}
use Rattle.pgs_run_contain.specs.Told.{told_texts}

-- What follows the texts: what is told by a choice behind two schemas, and behind the line of a text that is refused, of which this is kept; and
-- which choices are right there, behind two schemas by the names that stand in their texts.
pub record Behind : Type 1 where
  pub Choice : Type 0
  -- the choice of a run that stopped before
  pub none : Choice
  pub told : Choice → Resolved → Resolved → Told Status
  pub IsRight : Choice → Resolved → Resolved → Names → Status → Type 0
  pub cause : Choice → List (List ℕ)
  pub IsCause : Choice → (kept : List ℕ) → Type 0

module _ (behind : Behind) where
  -- what follows, by how the texts end
  abbrev pub told_at : behind.Choice → Ending → Told Status
  told_at choice (endings.Fit first second names) = behind.told choice first second
  told_at choice (endings.Refused kept) = record { pieces = behind.cause choice; status = statuses.SchemaRefused }
  told_at choice endings.Cut = record { pieces = []; status = statuses.InputTooLong }

  -- what is told of all, behind these pieces
  abbrev pub told_with : behind.Choice → List (List ℕ) → Ending → Told Status
  told_with choice pieces ending = record { pieces = pieces ++ (told_at choice ending).pieces; status = (told_at choice ending).status }

  -- what is told of an input within a budget
  abbrev pub told_compared : behind.Choice → List ℕ → ℕ → Told Status
  told_compared choice input budget = told_with choice (told_texts input budget).pieces (told_texts input budget).status

  abbrev pub IsRightAt : behind.Choice → Ending → Status → Type 0
  IsRightAt choice (endings.Fit first second names) status = behind.IsRight choice first second names status
  IsRightAt choice (endings.Refused kept) status = behind.IsCause choice kept
  IsRightAt choice endings.Cut status = Unit {0}

  -- the choice is right for what the source has left
  abbrev pub ChoosesRightly : behind.Choice → (left : Option (List ℕ)) → (budget : ℕ) → Status → Type 0
  ChoosesRightly choice left budget status = (input : List ℕ) → left ≡ Some input → IsRightAt choice (told_texts input budget).status status

  -- the command: both texts are read as `contain` reads them
  abbrev pub compared_spec : CommandSpec
  compared_spec =
      let kept = without_areas true IsOfCommand (told_compared behind.none) in
      record {
        Choice = behind.Choice;
        told = λ choice input areas bytes lost. told_compared choice input bytes;
        IsRight = λ choice old. ChoosesRightly choice old.source.left;
        reads_source = kept.reads_source;
        uses_areas = kept.uses_areas;
        AsksAreas = kept.AsksAreas;
        MayEnd = kept.MayEnd;
        ReadsInVain = kept.ReadsInVain;
        Leaves = kept.Leaves;
        Feeds = kept.Feeds;
        Gives = kept.Gives;
      }

-- Behind texts that ended so it was told of them by a right choice, as far as the stop says, and both areas stay.
pub record FollowsEnding (behind : Behind) (ending : Ending) (old : View) (stop : Stop Status) (new : View) : Type 0 where
  pub choice : behind.Choice
  pub right : IsRightAt behind choice ending (status_at stop)
  pub ends : Ends (shown_of old) (told_at behind choice ending) stop (shown_of new)
  pub may : MayPut stop
  pub cause : HasCause (faults_of 0 old) (faults_of 0 new) stop
  pub areas : KeepsAreas old new

-- behind two schemas
abbrev pub FollowsBoth : Behind → (first second : Resolved) → Names → View → Stop Status → View → Type 0
FollowsBoth behind first second names = FollowsEnding behind (endings.Fit first second names)

-- what follows the texts, by how their reading stopped; where no text was judged last nothing is put
abbrev pub FollowsTexts : Behind → Stop Ending → View → Stop Status → View → Type 0
FollowsTexts behind (stops.Ended (endings.Fit first second names)) old stop new = FollowsBoth behind first second names old stop new
FollowsTexts behind (stops.Ended (endings.Refused kept)) old stop new = FollowsEnding behind (endings.Refused kept) old stop new
FollowsTexts behind (stops.Ended endings.Cut) old stop new = PutsNothing (stops.Ended statuses.InputTooLong) old stop new
FollowsTexts behind stops.ReadFault old stop new = PutsNothing stops.ReadFault old stop new
FollowsTexts behind stops.DiskFault old stop new = PutsNothing stops.DiskFault old stop new
FollowsTexts behind stops.PutFault old stop new = PutsNothing stops.PutFault old stop new
FollowsTexts behind stops.Memory old stop new = PutsNothing stops.Memory old stop new

-- the reading of the texts stopped so
pub record Reading (budget : ℕ) (old : Setting) (source : SourceState) (mid : View) (texts : Stop Ending) : Type 0 where
  pub ends : (input : List ℕ) → old.source.left ≡ Some input → EndsAs (told_texts input) (shown_of old.view) input budget source.left texts (shown_of mid)
  pub by : EndsBy comparing budget old.source.left source.left texts
  pub may : MayCome comparing texts
  pub cause : HasCause (faults_in old) (faults_of source.faults mid) texts
  pub areas : KeepsAreas old.view mid
