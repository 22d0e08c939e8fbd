-- What becomes of pieces that are put one by one, as they are made; both areas stay as they were.
use Rattle.std.specs.Prelude.{◌≡◌, ℕ, List, Result, Ok, Err}
use Rattle.pgs_run_lines.specs.declared.stop.Stop.{Stop}
use Rattle.pgs_run_lines.specs.declared.stop.Stop.TheVariants as stops
use Rattle.pgs_run_lines.specs.AreasKept.{KeepsAreas}
use Rattle.pgs_run_lines.specs.Ending.{HasCause, Shows, faults_of}
use Rattle.pgs_run_lines.specs.Pieces.{shown_of, ShowsAll}
use Rattle.pgs_world.specs.World.{View}

-- the stops of pieces that are made and put
abbrev pub StopsPutting : {E : Type 0} → Stop E → Type 0
StopsPutting (stops.Ended status) = ⊥
StopsPutting stops.ReadFault = ⊥
StopsPutting stops.DiskFault = ⊥
StopsPutting stops.PutFault = Unit {0}
StopsPutting stops.Memory = Unit {0}

-- all were put, and no call failed
pub record PutsAll (old : View) (pieces : List (List ℕ)) (new : View) : Type 0 where
  pub shows : ShowsAll (shown_of old) pieces (shown_of new)
  pub faults : faults_of 0 new ≡ faults_of 0 old
  pub areas : KeepsAreas old new

-- the putting stopped: some first pieces were put, whole, and where a put failed a front of the next
pub record PutsUntil {E : Type 0} (old : View) (pieces : List (List ℕ)) (stop : Stop E) (new : View) : Type 0 where
  pub only : StopsPutting stop
  pub shows : Shows (shown_of old) pieces stop (shown_of new)
  pub cause : HasCause (faults_of 0 old) (faults_of 0 new) stop
  pub areas : KeepsAreas old new

abbrev pub Puts : {T E : Type 0} → View → List (List ℕ) → Result T (Stop E) → View → Type 0
Puts old pieces (Ok done) new = PutsAll old pieces new
Puts old pieces (Err stop) new = PutsUntil old pieces stop new
