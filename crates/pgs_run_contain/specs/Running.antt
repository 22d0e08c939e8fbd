-- How a run of `contain` ends, by how the reading of both texts stopped. Its answers are free, as long as they are right.
use Rattle.std.specs.Prelude.{◌≡◌, Bool, List, [], ◌++◌, Result, Ok, Err, is_some}
use Rattle.std.specs.List.{list_any}
use Rattle.pgs_run_lines.specs.declared.stop.Stop.{Stop}
use Rattle.pgs_run_lines.specs.declared.stop.Stop.TheVariants as stops
use Rattle.pgs_run_lines.specs.AreasKept.{KeepsAreas}
use Rattle.pgs_run_lines.specs.Ending.{faults_of}
use Rattle.pgs_run_lines.specs.Pieces.{shown_of}
use Rattle.pgs_run_lines.specs.Puts.{PutsAll, PutsUntil}
use Rattle.pgs_syntax.specs.declared.resolved.Resolved.{Resolved}
use Rattle.pgs_syntax.specs.declared.resolved.TypeNo.{TypeNo}
use Rattle.pgs_world.specs.World.{View}
use Rattle.pgs_command.specs.declared.status.Status.{Status}
use Rattle.pgs_command.specs.declared.status.Status.TheVariants.{Accepted, Refused, SchemaRefused, InputTooLong}
use Rattle.pgs_run_contain.specs.declared.ending.Ending.{Ending}
use Rattle.pgs_run_contain.specs.declared.ending.Ending.TheVariants as endings
use Rattle.pgs_run_contain.specs.Answers.{Answer, Listed, listed, answer_lines, AreRight}
use Rattle.pgs_run_contain.specs.Names.{Names}
use Rattle.pgs_run_contain.specs.Told.{status_by}

-- with these statuses each type has its line
abbrev pub HasAllLines : Status → Type 0
HasAllLines Accepted = Unit {0}
HasAllLines Refused = Unit {0}
HasAllLines status = ⊥

-- right answers to the first of some types, and to all of them where each has its line
pub record Answered (first second : Resolved) (names : Names) (types : List Listed) (answers : List Answer) (status : Status) : Type 0 where
  pub answered : List Listed
  pub later : List Listed
  pub parts : types ≡ answered ++ later
  pub right : AreRight first second names answered answers
  pub whole : HasAllLines status → later ≡ []

-- ---- the types

-- each of these types was answered rightly and has its line; it is known whether something is outside
pub record TellsAll (first second : Resolved) (names : Names) (numbers : List TypeNo) (some : Bool) (old new : View) : Type 0 where
  pub answers : List Answer
  pub right : AreRight first second names (listed first numbers) answers
  pub is : some ≡ list_any is_some answers
  pub puts : PutsAll old (answer_lines (listed first numbers) answers) new

-- some first ones were answered, and of their lines those were put that the stop says
pub record TellsSome (first second : Resolved) (names : Names) (numbers : List TypeNo) (stop : Stop Status) (old new : View) : Type 0 where
  pub answers : List Answer
  pub answered : List Listed
  pub later : List Listed
  pub parts : listed first numbers ≡ answered ++ later
  pub right : AreRight first second names answered answers
  pub puts : PutsUntil old (answer_lines answered answers) stop new

abbrev pub Tells : Resolved → Resolved → Names → List TypeNo → Result Bool (Stop Status) → View → View → Type 0
Tells first second names numbers (Ok some) old new = TellsAll first second names numbers some old new
Tells first second names numbers (Err stop) old new = TellsSome first second names numbers stop old new

-- the end of a run by whether something is outside, or by the stop
abbrev pub stop_by : Result Bool (Stop Status) → Stop Status
stop_by (Ok some) = stops.Ended (status_by some)
stop_by (Err stop) = stop

-- ---- behind the texts

-- the types of the first guard were told
pub record TellsTypes (first second : Resolved) (names : Names) (old : View) (stop : Stop Status) (new : View) : Type 0 where
  pub told : Result Bool (Stop Status)
  pub is : stop ≡ stop_by told
  pub tells : Tells first second names first.guard.types told old new

-- nothing was put, and the run stops so
pub record PutsNothing (so : Stop Status) (old : View) (stop : Stop Status) (new : View) : Type 0 where
  pub is : stop ≡ so
  pub shown : shown_of new ≡ shown_of old
  pub faults : faults_of 0 new ≡ faults_of 0 old
  pub areas : KeepsAreas old new

-- behind two schemas the types are told; else the run stops as the reading did
abbrev pub Follows : Stop Ending → View → Stop Status → View → Type 0
Follows (stops.Ended (endings.Fit first second names)) old stop new = TellsTypes first second names old stop new
Follows (stops.Ended (endings.Refused kept)) old stop new = PutsNothing (stops.Ended SchemaRefused) old stop new
Follows (stops.Ended endings.Cut) old stop new = PutsNothing (stops.Ended InputTooLong) old stop new
Follows stops.ReadFault old stop new = PutsNothing stops.ReadFault old stop new
Follows stops.DiskFault old stop new = PutsNothing stops.DiskFault old stop new
Follows stops.PutFault old stop new = PutsNothing stops.PutFault old stop new
Follows stops.Memory old stop new = PutsNothing stops.Memory old stop new
