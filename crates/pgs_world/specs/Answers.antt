-- What a world answers of its areas.
use Rattle.std.specs.Prelude.{◌≡◌, ℕ, List, [], ◌∷◌, length, take, drop}
use Rattle.pgs_world.specs.declared.area.Area.{Area}

-- an answer of `len`, or of `read_at`
pub data Answer : Type 0 where
  Long : (len : ℕ) → Answer
  Read : (at : ℕ) (bytes : List ℕ) → Answer

-- an area with this image answers so
abbrev pub Answers : List ℕ → Answer → Type 0
Answers image (Long len) = len ≡ length image
Answers image (Read at bytes) = bytes ≡ take (length bytes) (drop at image)

-- These answers of an area, one after the other, and no other call, lead from one world to the other. What a world takes an answer to be is handed in.
abbrev pub Answered : {W : Type 0} → (W → Area → Answer → W → Type 0) → Area → W → List Answer → W → Type 0
Answered {W = W} answered area old [] new = new ≡ old
Answered {W = W} answered area old (answer ∷ answers) new = (mid : W) × answered old area answer mid × Answered answered area mid answers new
