-- How a text is shown in a cause: as a JSON string, and no more of it than 64 characters.
use Rattle.std.specs.Prelude.{ℕ, zero, suc, Bool, List, [], ◌∷◌, if◌then◌else◌}
use Rattle.pgs_base.specs.Name.{is_between}
use Rattle.pgs_base_text.specs.Text.{quoted}

-- whether a byte of a text goes on with a character that an earlier one begins
abbrev pub goes_on : ℕ → Bool
goes_on = is_between 128 191

-- the first characters, at most so many
unfoldable pub characters : ℕ → List ℕ → List ℕ
characters n [] = []
characters zero (b ∷ bs) = if goes_on b then b ∷ characters zero bs else []
characters (suc n) (b ∷ bs) = if goes_on b then b ∷ characters (suc n) bs else b ∷ characters n bs

-- a text as it is shown
unfoldable pub shown : List ℕ → List ℕ
shown text = quoted (characters 64 text)
