-- Names among names: of labels, of keys, and of the names in a text alike.
use Rattle.std.specs.Prelude.{ℕ, Bool, ◌&&◌, List}
use Rattle.std.specs.Ordering.{nat_cmp}
use Rattle.std.specs.Cmp.Lexicographic.{slice_cmp}
use Rattle.std.specs.List.{list_any, list_all}
use Rattle.std.specs.BTreeMap.{is_at}
use Rattle.std.specs.BTreeSet.{insert_key}
use Rattle.std.specs.Set.{remove_key}
use Rattle.pgs_base.specs.Name.{is_name}
use Rattle.pgs_base.specs.Order.{ascends}

-- whether two names are one
abbrev pub same_name : List ℕ → List ℕ → Bool
same_name a b = is_at (slice_cmp nat_cmp a) b

-- whether a name is among names
abbrev pub has_name : List ℕ → List (List ℕ) → Bool
has_name name names = list_any (same_name name) names

-- names with a name put in, and with it taken out
abbrev pub put_name : List (List ℕ) → List ℕ → List (List ℕ)
put_name names name = insert_key (slice_cmp nat_cmp) names name

abbrev pub take_name : List (List ℕ) → List ℕ → List (List ℕ)
take_name names name = remove_key (same_name name) names

-- whether labels, or keys, are those of an element: they ascend strictly, and each is a name
abbrev pub are_names : List (List ℕ) → Bool
are_names names = ascends (slice_cmp nat_cmp) names && list_all is_name names
