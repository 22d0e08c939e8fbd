-- An entry behind others whose keys are less.
use Rattle.std.proofs.Common.{◌≡◌, true, List, [], ◌∷◌, ◌++◌, Some, None, refl, ap, ◌∙◌, Ordering, Less, Equal, Greater, is_lt}
use Rattle.std.specs.Ordering.{ordering_reverse}
use Rattle.std.specs.Cmp.{IsTotalOrder, tied_itself}
use Rattle.std.specs.List.{AllByRecursion, list_all}
use Rattle.std.specs.Map.{keys_of, lookup}
use Rattle.std.specs.BTreeMap.{is_at, insert_entry}
use Rattle.std.proofs.lemmas.Bool.{and_parts}
use Rattle.pgs_base.specs.Order.{ascends}

-- a key is greater than those of all entries
abbrev pub IsAbove : {K V : Type 0} → (K → K → Ordering) → K → List (K × V) → Type 0
IsAbove cmp k es = AllByRecursion (λ e. cmp k e.0 ≡ Greater) es

less_is : (o : Ordering) → is_lt o ≡ true → o ≡ Less
less_is Less h = refl
less_is Equal h = cc
less_is Greater h = cc

module _ {K V : Type 0} (cmp : K → K → Ordering) (total : IsTotalOrder cmp) where
  pub lookup_above : (k : K) (es : List (K × V)) → IsAbove cmp k es → lookup (is_at (cmp k)) es ≡ None
  lookup_above k [] above = refl
  lookup_above k (e ∷ es) above = rw above.0 (lookup_above k es above.1)

  pub lookup_last : (k : K) (v : V) (es : List (K × V)) → IsAbove cmp k es → lookup (is_at (cmp k)) (es ++ (k, v) ∷ []) ≡ Some v
  lookup_last k v [] above = rw (tied_itself total k)
  lookup_last k v (e ∷ es) above = rw above.0 (lookup_last k v es above.1)

  pub insert_above : (k : K) (v : V) (es : List (K × V)) → IsAbove cmp k es → insert_entry cmp es k v ≡ es ++ (k, v) ∷ []
  insert_above k v [] above = refl
  insert_above k v (e ∷ es) above = rw above.0 (ap (λ l. e ∷ l) (insert_above k v es above.1))

  pub insert_last : (k : K) (u v : V) (es : List (K × V)) → IsAbove cmp k es → insert_entry cmp (es ++ (k, u) ∷ []) k v ≡ es ++ (k, v) ∷ []
  insert_last k u v [] above = rw (tied_itself total k)
  insert_last k u v (e ∷ es) above = rw above.0 (ap (λ l. e ∷ l) (insert_last k u v es above.1))

  later : (x k : K) (v : V) (es rest : List (K × V)) → list_all (λ y. is_lt (cmp x y)) (keys_of (es ++ (k, v) ∷ rest)) ≡ true → cmp x k ≡ Less
  later x k v [] rest h = less_is (cmp x k) (and_parts _ _ h).0
  later x k v (e ∷ es) rest h = later x k v es rest (and_parts _ _ h).1

  -- where keys ascend, each is greater than those before it
  pub above_front : (k : K) (v : V) (es rest : List (K × V)) → ascends cmp (keys_of (es ++ (k, v) ∷ rest)) ≡ true → IsAbove cmp k es
  above_front k v [] rest h = tt
  above_front k v (e ∷ es) rest h =
      let parts = and_parts _ _ h in
      (total.antisymm k e.0 ∙ ap ordering_reverse (later e.0 k v es rest parts.0), above_front k v es rest parts.1)
