-- Where a key stands among keys or entries that ascend, or would stand, and what an edit there gives.
use Rattle.std.specs.Prelude.{◌≡◌, ℕ, ◌<◌, ◌≤◌, true, false, List, length, get_or, set, insert, remove, is_some, Some, None}
use Rattle.std.specs.declared.cmp.Ordering.{Ordering}
use Rattle.std.specs.List.{list_any}
use Rattle.std.specs.List.Sorted.{IsStrictlySortedBy}
use Rattle.std.specs.Map.{keys_of, lookup, remove_entry}
use Rattle.std.specs.Set.{remove_key}
use Rattle.std.specs.BTreeMap.{is_at, insert_entry}
use Rattle.std.specs.BTreeSet.{insert_key}

-- the key stands at place i
pub record IsKeyAt {K : Type 0} (cmp : K → K → Ordering) (k : K) (ks : List K) (i : ℕ) : Type 0 where
  pub in_range : i < length ks
  pub there : list_any (is_at (cmp k)) ks ≡ true
  pub inserts : insert_key cmp ks k ≡ ks
  pub removes : remove ks i ≡ remove_key (is_at (cmp k)) ks
  pub ascends : IsStrictlySortedBy cmp (remove ks i)

-- the key is not there, and would stand at place i
pub record IsKeyGap {K : Type 0} (cmp : K → K → Ordering) (k : K) (ks : List K) (i : ℕ) : Type 0 where
  pub in_range : i ≤ length ks
  pub absent : list_any (is_at (cmp k)) ks ≡ false
  pub inserts : insert ks i k ≡ insert_key cmp ks k
  pub removes : remove_key (is_at (cmp k)) ks ≡ ks
  pub ascends : IsStrictlySortedBy cmp (insert ks i k)

-- the entry at place i has the key
pub record IsEntryAt {K V : Type 0} (cmp : K → K → Ordering) (k : K) (es : List (K × V)) (i : ℕ) : Type 0 where
  pub in_range : i < length es
  pub there : is_some (lookup (is_at (cmp k)) es) ≡ true
  pub value : (d : K × V) → lookup (is_at (cmp k)) es ≡ Some (get_or es i d).1
  pub sets : (v : V) (d : K × V) → set es i ((get_or es i d).0, v) ≡ insert_entry cmp es k v
  pub removes : remove es i ≡ remove_entry (is_at (cmp k)) es
  pub ascends_set : (v : V) (d : K × V) → IsStrictlySortedBy cmp (keys_of (set es i ((get_or es i d).0, v)))
  pub ascends_removed : IsStrictlySortedBy cmp (keys_of (remove es i))

-- no entry has the key, and one would stand at place i
pub record IsEntryGap {K V : Type 0} (cmp : K → K → Ordering) (k : K) (es : List (K × V)) (i : ℕ) : Type 0 where
  pub in_range : i ≤ length es
  pub absent : lookup (is_at (cmp k)) es ≡ None
  pub inserts : (v : V) → insert es i (k, v) ≡ insert_entry cmp es k v
  pub removes : remove_entry (is_at (cmp k)) es ≡ es
  pub ascends : (v : V) → IsStrictlySortedBy cmp (keys_of (insert es i (k, v)))
