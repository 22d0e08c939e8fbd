-- Labels as a set, and properties as a map: what a list of names, and a list of pairs, name.
use Rattle.std.specs.Prelude.{ℕ, List, [], fold}
use Rattle.std.specs.Ordering.{nat_cmp}
use Rattle.std.specs.Cmp.Lexicographic.{slice_cmp}
use Rattle.std.specs.BTreeMap.{insert_entry}
use Rattle.std.specs.BTreeSet.{insert_key}
use Rattle.pgs_base.specs.declared.value.Value.{Value}

-- the set of the names
abbrev pub label_set : List (List ℕ) → List (List ℕ)
label_set names = fold (insert_key (slice_cmp nat_cmp)) [] names

-- the map of the pairs; of a name that stands twice the last pair counts
abbrev pub pair_map : List (List ℕ × Value) → List (List ℕ × Value)
pair_map pairs = fold (λ map p. insert_entry (slice_cmp nat_cmp) map p.0 p.1) [] pairs
