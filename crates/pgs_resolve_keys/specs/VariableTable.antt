-- Variables by their numbers, with look-ups.
use Rattle.std.specs.Prelude.{◌≡◌, ℕ, Bool, List, map}
use Rattle.std.specs.List.{position}
use Rattle.std.specs.Ordering.{nat_cmp}
use Rattle.std.specs.Cmp.Lexicographic.{slice_cmp}
use Rattle.std.specs.BTreeMap.{get}
use Rattle.pgs_resolve_keys.specs.declared.variables.Variables.{Variables}
use Rattle.pgs_resolve_keys.specs.Patterns.{Variable, called, nameless, is_same}

-- whether a table holds these variables in order
pub record Holds (variables : List (Variable × Bool)) (table : Variables) : Type 0 where
  pub edges : table.edge_vars.items ≡ map (λ (v : Variable × Bool). v.1) variables
  pub named : (name : List ℕ) → get (slice_cmp nat_cmp) table.named name ≡ position (is_same (called name)) variables
  pub unnamed : (number : ℕ) → get nat_cmp table.nameless number ≡ position (is_same (nameless number)) variables
