-- A row that is entered into a table of owners: its tuples ascend, so none stands before itself, and each finds the owner before the row.
use Rattle.std.proofs.Common.{◌≡◌, ℕ, zero, suc, ◌<◌, false, cond, List, [], ◌∷◌, take, get_or, length, Some, refl, ap, ◌∙◌, subst, arith, Less}
use Rattle.std.specs.Prelude.{◌||◌}
use Rattle.std.specs.Borrow.{Bor}
use Rattle.std.specs.BTreeMap.{BTreeMap, is_at}
use Rattle.std.specs.Ordering.{is_eq, ordering_reverse}
use Rattle.std.specs.List.{AllByRecursion, list_any}
use Rattle.std.specs.List.Sorted.{IsStrictlySortedBy}
use Rattle.pgs_base.specs.declared.part.Part.{Part}
use Rattle.pgs_base.specs.Order.{tuple_cmp}
use Rattle.pgs_base.specs.OrderLaws.{tuple_cmp_total}
use Rattle.pgs_keyindex.proofs.Entered.{at}

less_at : (t : List Part) (tuples : List (List Part)) → AllByRecursion (λ later. tuple_cmp t later ≡ Less) tuples → (i : ℕ) (d : List Part) → i < length tuples →
    tuple_cmp t (get_or tuples i d) ≡ Less
less_at t [] all i d below = absurd (omega arith)
less_at t (first ∷ tuples) all zero d below = all.0
less_at t (first ∷ tuples) all (suc i) d below = less_at t tuples all.1 i d (omega arith)

not_at : (t later : List Part) → tuple_cmp t later ≡ Less → is_at (tuple_cmp later) t ≡ false
not_at t later less = ap is_eq (tuple_cmp_total.antisymm later t ∙ ap ordering_reverse less)

none_before : (tuples : List (List Part)) → IsStrictlySortedBy tuple_cmp tuples → (i : ℕ) (d : List Part) → i < length tuples →
    list_any (is_at (tuple_cmp (get_or tuples i d))) (take i tuples) ≡ false
unfolding IsStrictlySortedBy
none_before [] ordered i d below = absurd (omega arith)
none_before (t ∷ tuples) ordered zero d below = refl
none_before (t ∷ tuples) ordered (suc i) d below =
    let later = get_or tuples i d in
    ap (λ b. b || list_any (is_at (tuple_cmp later)) (take i tuples)) (not_at t later (less_at t tuples ordered.0 i d (omega arith)))
    ∙ none_before tuples ordered.1 i d (omega arith)

module _ (items tuples : List (List Part)) (same : items ≡ tuples) (i : ℕ) (below : i < length items) (t : List Part) (is : t ≡ get_or items i t) where
  pub below_end : i < length tuples
  below_end = subst (λ ts. i < length ts) same below

  pub stands_there : t ≡ get_or tuples i t
  stands_there = is ∙ ap (λ ts. get_or ts i t) same

  -- the owner of a tuple that a row comes to is the one before the row
  pub owner_before : {X : Type 0} → IsStrictlySortedBy tuple_cmp tuples → (start m : BTreeMap (Bor (List Part)) X) (w : X) →
      ((q : List Part) → at m q ≡ cond (list_any (is_at (tuple_cmp q)) (take i tuples)) (Some w) (at start q)) → at m t ≡ at start t
  owner_before ordered start m w so_far =
      so_far t
      ∙ ap (λ b. cond b (Some w) (at start t))
      (ap (λ q. list_any (is_at (tuple_cmp q)) (take i tuples)) stands_there ∙ none_before tuples ordered i t below_end)
