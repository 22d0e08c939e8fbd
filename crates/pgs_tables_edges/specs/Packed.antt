-- Parts that stand one after another, of which none is too large and no two side by side would fit into one, so that they are few.
use Rattle.std.specs.Prelude.{ℕ, ◌+◌, ◌<◌, ◌≤◌, List, [], ◌∷◌, length}
use Rattle.pgs_tables_edges.specs.Starts.{IsPlaced}

-- each part has at most 1,024 items, and more together with the part before it; n is the length of the part before the first
abbrev pub PackedFrom : {X A : Type 0} → (X → List A) → ℕ → List X → Type 0
PackedFrom items n [] = Unit {0}
PackedFrom items n (x ∷ xs) = (length (items x) ≤ 1024) × (1024 < n + length (items x)) × PackedFrom items (length (items x)) xs

-- how many items the last part has, and n where there is none
abbrev pub last_count : {X A : Type 0} → (X → List A) → ℕ → List X → ℕ
last_count items n [] = n
last_count items n (x ∷ xs) = last_count items (length (items x)) xs

-- the parts have so many items, say where they start, and are packed; the first has only to have some
pub record ArePacked {X A : Type 0} (start : X → ℕ) (first : X → A) (items : X → List A) (count : ℕ) (parts : List X) : Type 0 where
  pub placed : IsPlaced start first items count parts
  pub packed : PackedFrom items 1024 parts
