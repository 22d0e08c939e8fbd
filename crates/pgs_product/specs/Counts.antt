-- How many shapes a product has.
use Rattle.std.specs.Prelude.{ℕ, ◌*◌, List, [], ◌∷◌, length}

-- the ways to take one of each list
abbrev pub choices : {X : Type 0} → List (List X) → ℕ
choices [] = 1
choices (list ∷ lists) = length list * choices lists
