-- How names stand in a list: behind all that they name, and the least that can come next.
use Rattle.std.specs.Prelude.{◌≡◌, ◌≤◌, ℕ, List, Contains}
use Rattle.pgs_resolve_declared.specs.Order.{Entry}

-- whether a name can follow names: it isn't among them, and all that it names are
pub record CanFollow (listed : List (List ℕ)) (name : List ℕ) (names : List (List ℕ)) : Type 0 where
  pub new : Contains listed name → ⊥
  pub behind : (other : List ℕ) → Contains names other → Contains listed other

-- whether a name is that of the type that comes next behind names: it can follow them, and none that can has a lesser place
pub record IsNext (entries : List Entry) (listed : List (List ℕ)) (name : List ℕ) : Type 0 where
  pub entry : Entry
  pub among : Contains entries entry
  pub named : entry.name ≡ name
  pub follows : CanFollow listed entry.name entry.names
  pub least : (other : Entry) → Contains entries other → CanFollow listed other.name other.names → entry.place ≤ other.place
