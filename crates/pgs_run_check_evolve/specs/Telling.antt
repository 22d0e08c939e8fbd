-- How the telling of a step goes on: the types of the old schema first, then what is behind them.
use Rattle.std.specs.Prelude.{◌≡◌, ℕ, Bool, true, false, List, [], map, Result, Ok}
use Rattle.pgs_run_lines.specs.declared.stop.Stop.{Stop}
use Rattle.pgs_run_lines.specs.declared.stop.Stop.TheVariants as stops
use Rattle.pgs_run_lines.specs.Puts.{PutsAll, PutsUntil}
use Rattle.pgs_syntax.specs.declared.resolved.Resolved.{Resolved}
use Rattle.pgs_syntax.specs.Join.{is_empty}
use Rattle.pgs_violation.specs.declared.violation.Violation.{Violation}
use Rattle.pgs_world.specs.World.{View}
use Rattle.pgs_command.specs.declared.status.Status.{Status}
use Rattle.pgs_command.specs.declared.status.Status.TheVariants.{SchemaRefused, PutFault}
use Rattle.pgs_schema_changes.specs.Safe.{is_safe}
use Rattle.pgs_run_try.specs.Told.{listed_line}
use Rattle.pgs_run_contain.specs.Names.{Names}
use Rattle.pgs_run_contain.specs.Running.{Tells}
use Rattle.pgs_run_check_evolve.specs.declared.changes.Behind.{Behind}
use Rattle.pgs_run_check_evolve.specs.Lines.{lines_behind}
use Rattle.pgs_run_check_evolve.specs.Told.{status_by}

-- the types of the old guard were told where the new one is strict; else nothing was done, and nothing is outside
abbrev pub TellsOld : Bool → Resolved → Resolved → Names → Result Bool (Stop Status) → View → View → Type 0
TellsOld true old new names told before after = Tells old new names old.guard.types told before after
TellsOld false old new names told before after = (told ≡ Ok false) × PutsAll before [] after

-- the lines behind the types, and whether the step is safe
pub record IsBehind (old new : Resolved) (contained : Bool) (it : Behind) : Type 0 where
  pub lines : it.lines.items ≡ lines_behind old new contained
  pub safe : it.safe ≡ is_safe old new contained

-- they were put, and the run ends with the status of the step, or stops so
abbrev pub TellsBehind : Resolved → Resolved → Bool → View → Stop Status → View → Type 0
TellsBehind old new contained before (stops.Ended status) after =
    (status ≡ status_by (is_safe old new contained)) × PutsAll before (lines_behind old new contained) after
TellsBehind old new contained before stops.ReadFault after = ⊥
TellsBehind old new contained before stops.DiskFault after = ⊥
TellsBehind old new contained before stops.PutFault after = PutsUntil {E = Status} before (lines_behind old new contained) stops.PutFault after
TellsBehind old new contained before stops.Memory after = PutsUntil {E = Status} before (lines_behind old new contained) stops.Memory after

-- the lines of violations were put, and the run ends by whether there are any, or stops so
abbrev pub TellsListed : List Violation → View → Stop Status → View → Type 0
TellsListed found before (stops.Ended status) after = (status ≡ status_by (is_empty found)) × PutsAll before (map listed_line found) after
TellsListed found before stops.ReadFault after = ⊥
TellsListed found before stops.DiskFault after = ⊥
TellsListed found before stops.PutFault after = PutsUntil {E = Status} before (map listed_line found) stops.PutFault after
TellsListed found before stops.Memory after = PutsUntil {E = Status} before (map listed_line found) stops.Memory after

-- the lines of a refusal were put, or the put of one failed
abbrev pub TellsRefusal : List (List ℕ) → View → View → Status → Type 0
TellsRefusal lines before after SchemaRefused = PutsAll before lines after
TellsRefusal lines before after PutFault = PutsUntil {E = Status} before lines stops.PutFault after
TellsRefusal lines before after status = ⊥
