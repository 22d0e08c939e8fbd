-- How the reading of an input ends.
use Rattle.std.specs.Prelude.{◌≡◌, ℕ, ◌<◌, ◌≤◌, ◌+◌, List, length, Option, Result, Ok, Err}
use Rattle.pgs_world.specs.Source.{Takes, IsAtEnd}
use Rattle.pgs_run_lines.specs.declared.reading.End.{End}
use Rattle.pgs_run_lines.specs.declared.reading.End.TheVariants.{Whole, Cut}
use Rattle.pgs_run_lines.specs.declared.stop.Stop.{Stop}
use Rattle.pgs_run_lines.specs.declared.stop.Stop.TheVariants as stops
use Rattle.pgs_run_lines.specs.Driving.{Runs, StopsAt}
use Rattle.pgs_run_lines.specs.Input.{kept_of}
use Rattle.pgs_run_lines.specs.Machine.{Machine, Rule, Scene}

-- where these bytes were read and the run stopped: after a fault of a read all their lines were taken
abbrev pub StopsIn : {E : Type 0} (m : Machine E) (rule : Rule m) → ℕ → m.State → Scene rule.Kept → List ℕ → m.State → List ℕ → Stop E
    → Scene rule.Kept → Type 0
StopsIn m rule limit s start seen state line stops.ReadFault now = Runs m rule limit s start seen state line now
StopsIn m rule limit s start seen state line (stops.Ended status) now =
    StopsAt m rule s start (kept_of limit seen).ended (stops.Ended status) now
StopsIn m rule limit s start seen state line stops.DiskFault now = StopsAt m rule s start (kept_of limit seen).ended stops.DiskFault now
StopsIn m rule limit s start seen state line stops.PutFault now = StopsAt m rule s start (kept_of limit seen).ended stops.PutFault now
StopsIn m rule limit s start seen state line stops.Memory now = StopsAt m rule s start (kept_of limit seen).ended stops.Memory now

-- these bytes were read, to the end of the input or of the budget; or the run stopped inside them
abbrev pub EndsAt : {E : Type 0} (m : Machine E) (rule : Rule m) → ℕ → m.State → Scene rule.Kept → List ℕ → ℕ → Option (List ℕ) → m.State
    → List ℕ → Result End (Stop E) → Scene rule.Kept → Type 0
EndsAt m rule limit s start bytes budget left state line (Ok Whole) now =
    (length bytes < budget) × IsAtEnd left × Runs m rule limit s start bytes state line now
EndsAt m rule limit s start bytes budget left state line (Ok Cut) now =
    (length bytes ≡ budget) × Runs m rule limit s start bytes state line now
EndsAt m rule limit s start bytes budget left state line (Err stop) now =
    (length bytes ≤ budget) × StopsIn m rule limit s start bytes state line stop now

-- the reading of a source ended so
pub record Reads {E : Type 0} (m : Machine E) (rule : Rule m) (limit : ℕ) (s : m.State) (start : Scene rule.Kept) (budget : ℕ)
    (before left : Option (List ℕ)) (state : m.State) (line : List ℕ) (result : Result End (Stop E)) (now : Scene rule.Kept)
    : Type 0 where
  pub bytes : List ℕ
  pub taken : Takes before left bytes
  pub ends : EndsAt m rule limit s start bytes budget left state line result now

-- the reading goes on: these bytes were taken, and so much of the budget is left
pub record ReadSoFar {E : Type 0} (m : Machine E) (rule : Rule m) (limit : ℕ) (s : m.State) (start : Scene rule.Kept) (budget rest : ℕ)
    (before left : Option (List ℕ)) (state : m.State) (line : List ℕ) (now : Scene rule.Kept) : Type 0 where
  pub bytes : List ℕ
  pub taken : Takes before left bytes
  pub counted : length bytes + rest ≡ budget
  pub runs : Runs m rule limit s start bytes state line now
