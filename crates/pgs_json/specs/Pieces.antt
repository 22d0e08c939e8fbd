-- Pieces of the canonical text, as they are written one after the other.
use Rattle.std.specs.Prelude.{ℕ, List, [], ◌∷◌, ◌++◌, flat_map, Option, Some, None, codes, decimal}
use Rattle.pgs_base.specs.declared.value.Value.{Value}
use Rattle.pgs_base_text.specs.Text.{quoted}
use Rattle.pgs_json.specs.Canonical.{value_text, labels_text, props_text}

-- an item that follows another
abbrev pub further : {A : Type 0} → (A → List ℕ) → A → List ℕ
further text x = 44 ∷ text x

-- items with a comma before each but the first
abbrev pub listed : {A : Type 0} → (A → List ℕ) → List A → List ℕ
listed text [] = []
listed text (x ∷ xs) = text x ++ flat_map (further text) xs

abbrev pub prop_text : List ℕ × Value → List ℕ
prop_text p = quoted p.0 ++ (58 ∷ value_text p.1)

-- labels and properties between other members
abbrev pub pair_part : List (List ℕ) → List (List ℕ × Value) → List ℕ
pair_part labels props = codes ",\"labels\":" ++ (labels_text labels ++ (codes ",\"props\":" ++ props_text props))

-- a name and then an id, each behind a front
abbrev pub named_text : List ℕ → List ℕ → List ℕ → ℕ → List ℕ
named_text front name kind id = front ++ (quoted name ++ (kind ++ decimal id))

-- what stands before the operations
abbrev pub front_text : Option ℕ → List ℕ
front_text None = codes "{\"ops\":"
front_text (Some commit) = codes "{\"commit\":" ++ (decimal commit ++ codes ",\"ops\":")
