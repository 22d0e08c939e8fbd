-- The disk model as a whole: what a stop may leave of an area after all that was done to it since its last sync.
use Rattle.std.specs.Prelude.{◌≡◌, ℕ, ◌≤◌, List, [], ◌∷◌, length}
use Rattle.pgs_world.specs.Disk.{IsTorn, IsCutShort}
use Rattle.pgs_world.specs.Held.{Held, after_write, after_cut}

-- what was done to an area
pub data Change : Type 0 where
  Wrote : (at : ℕ) (piece : List ℕ) → Change
  CutTo : (len : ℕ) → Change

abbrev pub after_change : Held → Change → Held
after_change held (Wrote at piece) = after_write held at piece
after_change held (CutTo len) = after_cut held len

abbrev pub after_changes : Held → List Change → Held
after_changes held [] = held
after_changes held (change ∷ changes) = after_changes (after_change held change) changes

-- no write begins past the end
abbrev pub CanChange : Held → Change → Type 0
CanChange held (Wrote at piece) = at ≤ length held.bytes
CanChange held (CutTo len) = Unit {0}

abbrev pub CanChangeAll : Held → List Change → Type 0
CanChangeAll held [] = Unit {0}
CanChangeAll held (change ∷ changes) = CanChange held change × CanChangeAll (after_change held change) changes

-- what the clauses on stops say of one call
abbrev pub Steps : Change → List ℕ → List ℕ → Type 0
Steps (Wrote at piece) old new = IsTorn at (length piece) old new
Steps (CutTo len) old new = IsCutShort len old new

-- what they say of several
abbrev pub StepsAll : List Change → List ℕ → List ℕ → Type 0
StepsAll [] old new = new ≡ old
StepsAll (change ∷ changes) old new = (mid : List ℕ) × Steps change old mid × StepsAll changes mid new
