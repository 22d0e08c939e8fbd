-- What a stop during a call on one area may leave.
use Rattle.std.specs.Prelude.{◌≡◌, ◌⊎◌, ℕ, ◌+◌, true, List, [], ◌∷◌, ◌++◌, length, take, Option, Some}
use Rattle.pgs_codec.specs.Frame.{framed}
use Rattle.pgs_world.specs.declared.area.Area.{Area}
use Rattle.pgs_world.specs.Disk.{IsSameBeside}
use Rattle.pgs_world.specs.World.{Triple, part}
use Rattle.pgs_journal.specs.Area.{is_no_store}
use Rattle.pgs_journal.specs.Format.{advanced, Holds}

-- this area goes from its old image to a new one, and the rest is the same
pub record Turns (area : Area) (step : List ℕ → List ℕ → Type 0) (old new : Triple) : Type 0 where
  pub image : step (part area old) (part area new)
  pub same : IsSameBeside area old new

-- the records that the area held up to this place are still all that it holds, or it holds the new one too
abbrev pub Appends : Option ℕ → ℕ → ℕ → List ℕ → List ℕ → List ℕ → Type 0
Appends next epoch end payload old new =
    (payloads : List (List ℕ)) → Holds next epoch payloads end old
    → Holds next epoch payloads end new ⊎ Holds (advanced next) epoch (payloads ++ payload ∷ []) (end + length (framed next payload)) new

-- the area is as it was, no store, or a new store of these records, in the second format
abbrev pub Creates : ℕ → List (List ℕ) → ℕ → List ℕ → List ℕ → Type 0
Creates epoch payloads end old new =
    (new ≡ old) ⊎ ((is_no_store new ≡ true) ⊎ Holds (Some (length payloads + 1)) epoch payloads end new)

-- the area is as it was, or no store
abbrev pub Closes : List ℕ → List ℕ → Type 0
Closes old new = (new ≡ old) ⊎ (is_no_store new ≡ true)

-- the area's own gate stays as it was
abbrev pub KeepsGate : List ℕ → List ℕ → Type 0
KeepsGate old new = take 1 new ≡ take 1 old
