-- What an edit at the place of a key gives, where it is made on a list that is equal to the keys or entries.
use Rattle.std.proofs.Common.{◌≡◌, ℕ, true≢false, List, get_or, set, insert, remove, Some, Result, Ok, Err, IfOk, OnOk, OnErr, IsErr, sym, ap, subst, ◌∙◌, Ordering}
use Rattle.std.specs.List.Sorted.{IsStrictlySortedBy}
use Rattle.std.specs.Map.{keys_of, lookup, remove_entry}
use Rattle.std.specs.Set.{remove_key}
use Rattle.std.specs.BTreeMap.{is_at, insert_entry}
use Rattle.std.specs.BTreeSet.{insert_key}
use Rattle.pgs_base.specs.Places.{IsKeyAt, IsKeyGap, IsEntryAt, IsEntryGap}

module _ {K V : Type 0} (cmp : K → K → Ordering) (k : K) (es : List (K × V)) (i : ℕ) (held : List (K × V)) (same : held ≡ es) where
  abbrev Ascending : List (K × V) → Type 0
  Ascending l = IsStrictlySortedBy cmp (keys_of l)

  module _ (here : IsEntryAt cmp k es i) where
    -- the entry there, as it is read
    module _ (e : K × V) (read : e ≡ get_or held i e) where
      entry_read : e ≡ get_or es i e
      entry_read = read ∙ ap (λ l. get_or l i e) same

      pub entry_found : (old : V) → old ≡ e.1 → Some old ≡ lookup (is_at (cmp k)) es
      entry_found old is = ap Some (is ∙ ap (λ f. f.1) entry_read) ∙ sym (here.value e)

      set_same : (v new : V) → new ≡ v → set held i (e.0, new) ≡ set es i ((get_or es i e).0, v)
      set_same v new is = λ j. set (same j) i ((entry_read j).0, is j)

      pub entry_set : (v new : V) → new ≡ v → set held i (e.0, new) ≡ insert_entry cmp es k v
      entry_set v new is = set_same v new is ∙ here.sets v e

      pub entry_set_ascends : (v new : V) → new ≡ v → Ascending (set held i (e.0, new))
      entry_set_ascends v new is = subst Ascending (sym (set_same v new is)) (here.ascends_set v e)

    module _ (after : List (K × V)) (removed : after ≡ remove held i) where
      remove_same : after ≡ remove es i
      remove_same = removed ∙ ap (λ l. remove l i) same

      pub entry_removed : after ≡ remove_entry (is_at (cmp k)) es
      entry_removed = remove_same ∙ here.removes

      pub entry_removed_ascends : Ascending after
      entry_removed_ascends = subst Ascending (sym remove_same) here.ascends_removed

  module _ (gap : IsEntryGap cmp k es i) (v : V) (after : List (K × V)) (inserted : after ≡ insert held i (k, v)) where
    insert_same : after ≡ insert es i (k, v)
    insert_same = inserted ∙ ap (λ l. insert l i (k, v)) same

    pub entry_inserted : after ≡ insert_entry cmp es k v
    entry_inserted = insert_same ∙ gap.inserts v

    pub entry_inserted_ascends : Ascending after
    entry_inserted_ascends = subst Ascending (sym insert_same) (gap.ascends v)

-- the same of keys
module _ {K : Type 0} (cmp : K → K → Ordering) (k : K) (ks : List K) (i : ℕ) (held : List K) (same : held ≡ ks) where
  module _ (here : IsKeyAt cmp k ks i) (after : List K) (removed : after ≡ remove held i) where
    key_remove_same : after ≡ remove ks i
    key_remove_same = removed ∙ ap (λ l. remove l i) same

    pub key_removed : after ≡ remove_key (is_at (cmp k)) ks
    key_removed = key_remove_same ∙ here.removes

    pub key_removed_ascends : IsStrictlySortedBy cmp after
    key_removed_ascends = subst (IsStrictlySortedBy cmp) (sym key_remove_same) here.ascends

  module _ (gap : IsKeyGap cmp k ks i) (after : List K) (inserted : after ≡ insert held i k) where
    key_insert_same : after ≡ insert ks i k
    key_insert_same = inserted ∙ ap (λ l. insert l i k) same

    pub key_inserted : after ≡ insert_key cmp ks k
    key_inserted = key_insert_same ∙ gap.inserts

    pub key_inserted_ascends : IsStrictlySortedBy cmp after
    key_inserted_ascends = subst (IsStrictlySortedBy cmp) (sym key_insert_same) gap.ascends

-- what is said of a call that failed
module _ {T E : Type 0} (r : Result T E) (failed : IsErr r) where
  pub failed_on_ok : (P : Type 0) → OnOk r P
  failed_on_ok P = by r failed
    where
      by : (s : Result T E) → IsErr s → OnOk s P
      by (Err e) f = tt
      by (Ok v) f = absurd (true≢false (sym f))

  pub failed_if_ok : (P : T → Type 0) → IfOk r P
  failed_if_ok P = by r failed
    where
      by : (s : Result T E) → IsErr s → IfOk s P
      by (Err e) f = tt
      by (Ok v) f = absurd (true≢false (sym f))

  pub failed_on_err : (P : Type 0) → P → OnErr r P
  failed_on_err P p = by r failed
    where
      by : (s : Result T E) → IsErr s → OnErr s P
      by (Err e) f = p
      by (Ok v) f = tt
