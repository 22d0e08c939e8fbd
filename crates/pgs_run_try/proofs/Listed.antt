-- Lines of violations that are put one after another.
use Rattle.std.proofs.Common.{◌≡◌, List, ◌++◌, map}
use Rattle.std.proofs.lemmas.List.{map-append}
use Rattle.pgs_run_lines.specs.declared.stop.Stop.{Stop}
use Rattle.pgs_run_lines.specs.declared.stop.Stop.TheVariants as stops
use Rattle.pgs_run_lines.specs.Ending.{Shows, Ends}
use Rattle.pgs_run_lines.specs.Machine.{Told}
use Rattle.pgs_run_lines.specs.Puts.{StopsPutting}
use Rattle.pgs_run_lines.specs.Pieces.{Shown}
use Rattle.pgs_violation.specs.declared.violation.Violation.{Violation}
use Rattle.pgs_command.specs.declared.status.Status.{Status}
use Rattle.pgs_run_try.specs.Told.{listed_line}

pub listed-append : (xs ys : List Violation) → map listed_line (xs ++ ys) ≡ map listed_line xs ++ map listed_line ys
listed-append xs ys = map-append listed_line xs ys

-- what is shown where a put stops says nothing of the status
pub stop_ends : (stop : Stop Status) (start now : Shown) (told : Told Status) → StopsPutting stop → Shows start told.pieces stop now → Ends start told stop now
stop_ends (stops.Ended status) start now told only shows = absurd only
stop_ends stops.ReadFault start now told only shows = absurd only
stop_ends stops.DiskFault start now told only shows = absurd only
stop_ends stops.PutFault start now told only shows = shows
stop_ends stops.Memory start now told only shows = shows
