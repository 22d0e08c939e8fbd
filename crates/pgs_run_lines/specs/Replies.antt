-- What comes of a line that is put with a status.
use Rattle.std.specs.Prelude.{◌≡◌, ◌⊎◌, ℕ, List, [], ◌∷◌}
use Rattle.pgs_run_lines.specs.AreasKept.{KeepsAreas}
use Rattle.pgs_run_lines.specs.Ending.{PutsRose, faults_of}
use Rattle.pgs_run_lines.specs.Pieces.{shown_of, ShowsAll, ShowsTorn}
use Rattle.pgs_world.specs.Disk.{PutsFront}
use Rattle.pgs_world.specs.Moment.{StopsBy}
use Rattle.pgs_world.specs.World.{View}

-- the line was put, and this status is the answer; or its put failed, and that one is
abbrev pub EndsReply : {E : Type 0} → (line : List ℕ) → (status failed : E) → View → E → View → Type 0
EndsReply line status failed old answer new =
    ((answer ≡ status) × ShowsAll (shown_of old) (line ∷ []) (shown_of new) × (faults_of 0 new ≡ faults_of 0 old))
    ⊎ ((answer ≡ failed) × ShowsTorn (shown_of old) (line ∷ []) (shown_of new) × PutsRose (faults_of 0 old) (faults_of 0 new))

-- the same of a line that was to be made; or there was no memory for it, and this status is the answer
abbrev pub EndsLast : {E : Type 0} → (line : List ℕ) → (status failed unmade : E) → View → E → View → Type 0
EndsLast line status failed unmade old answer new =
    EndsReply line status failed old answer new
    ⊎ ((answer ≡ unmade) × ShowsAll (shown_of old) [] (shown_of new) × (faults_of 0 new ≡ faults_of 0 old))

-- as `EndsReply`, and at every moment both areas are what they were, and a front of the line is out
pub record PutsReply {E : Type 0} (line : List ℕ) (status failed : E) (old : View) (answer : E) (new : View) : Type 0 where
  pub ends : EndsReply line status failed old answer new
  pub stops : StopsBy (PutsFront line) old new
  pub areas : KeepsAreas old new
