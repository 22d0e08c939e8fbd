-- Where a number stands among numbers that ascend.
use Rattle.std.proofs.Common.{◌≡◌, ℕ, zero, suc, ◌+◌, ◌<◌, ◌≤◌, List, [], ◌∷◌, length, get_or, slice_get, Some, Result, Ok, Err, IfOk, Less, Equal, Greater, sym, ap, ◌∙◌, inl, inr, arith, tests}
use Rattle.std.specs.Ordering.{nat_cmp, ordering_index}
use Rattle.std.specs.List.{AllByRecursion}
use Rattle.std.specs.List.Sorted.{IsStrictlySortedBy, IsBinarySearchResult, IsPartitionPoint}
use Rattle.std.proofs.lemmas.Bool.{cases_lt}
use Rattle.std.proofs.lemmas.Cmp.{ranked}
use Rattle.std.proofs.lemmas.List.{get_or_default, get_or_past}
use Rattle.std.proofs.lemmas.Option.{slice_get-get_or}
use Rattle.std.specs.Cmp.{IsTotalOrder, nat_cmp_is, nat_cmp_total, on_total}
use Rattle.pgs_base.specs.declared.element.EdgeId.{EdgeId}
use Rattle.pgs_base.specs.Graph.{edge_cmp}
use Rattle.pgs_tables_edges.specs.Numbers.{numbered, number_at, AllBelow, AllAbove, IsBetween}
use Rattle.pgs_base.specs.Places.{IsKeyAt, IsKeyGap}
use Rattle.pgs_base.proofs.Places.{key_searched}

pub numbers_same : {a b : EdgeId} → a ≡ b → a.0 ≡ b.0
numbers_same e = ap (λ (id : EdgeId). id.0) e

pub edge_cmp_total : IsTotalOrder edge_cmp
edge_cmp_total = on_total (λ (id : EdgeId). id.0) nat_cmp_total

-- which item stands past the last doesn't matter at the others
number_default : (xs : List EdgeId) (k : ℕ) (d : EdgeId) → k < length xs → (get_or xs k d).0 ≡ number_at xs k
number_default xs k d lt = numbers_same (get_or_default xs k d (numbered 0) lt)

all_above : (x : EdgeId) (xs : List EdgeId) (j : ℕ) → AllByRecursion (λ y. edge_cmp x y ≡ Less) xs → j < length xs → x.0 < number_at xs j
all_above x [] j a lt = absurd (omega arith)
all_above x (y ∷ ys) zero a lt = ranked x.0 y.0 Less (sym a.0)
all_above x (y ∷ ys) (suc j) a lt = all_above x ys j a.1 (omega arith)

-- an earlier number is below a later one
pub ascends : (xs : List EdgeId) (i j : ℕ) → IsStrictlySortedBy edge_cmp xs → i < j → j < length xs → number_at xs i < number_at xs j
unfolding IsStrictlySortedBy
ascends [] i j s le lt = absurd (omega arith)
ascends (x ∷ xs) i zero s le lt = absurd (omega arith)
ascends (x ∷ xs) zero (suc j) s le lt = all_above x xs j s.0 (omega arith)
ascends (x ∷ xs) (suc i) (suc j) s le lt = ascends xs i j s.1 (omega arith) (omega arith)

-- a number and those after it are above the query
pub ascends_from : (xs : List EdgeId) (i k id : ℕ) → IsStrictlySortedBy edge_cmp xs → i ≤ k → k < length xs → id < number_at xs i → id < number_at xs k
ascends_from xs i k id s le lt above =
    elim (cases_lt i k) [ inl later ↦ omega (arith, ascends xs i k s later lt) | inr same ↦ let e : k ≡ i = omega arith in rw e above ]

-- the number stands at place i
pub key_here : (id : EdgeId) (xs : List EdgeId) (i : ℕ) → IsStrictlySortedBy edge_cmp xs → i < length xs → number_at xs i ≡ id.0 → IsKeyAt edge_cmp id xs i
key_here id xs i s lt e =
    key_searched edge_cmp_total id xs s (Ok i) lt (λ d. sym (nat_cmp_is (get_or xs i d).0 id.0 Equal (number_default xs i d lt ∙ e)))

-- the number would stand at place i
pub key_between : (id : EdgeId) (xs : List EdgeId) (i : ℕ) → IsStrictlySortedBy edge_cmp xs → IsBetween id xs i → IsKeyGap edge_cmp id xs i
key_between id xs i s between =
    key_searched edge_cmp_total id xs s (Err i) between.in_range (λ rises. (
      λ k d low high. let lt : k < length xs = omega (arith, between.in_range) in let e = number_default xs k d lt in sym (nat_cmp_is (get_or xs k d).0 id.0 Less (omega (arith, e, between.below k high))),
      λ k d low high. let e = number_default xs k d high in sym (nat_cmp_is (get_or xs k d).0 id.0 Greater (omega (arith, e, between.above k low high))),
    ))

-- among no numbers it would stand at the first place
pub between_none : (id : EdgeId) (xs : List EdgeId) → length xs ≡ 0 → IsBetween id xs 0
between_none id xs e = record { in_range = omega arith; below = λ k low. absurd (omega arith); above = λ k low high. absurd (omega arith) }

-- what a binary search says that found the number
pub searched_found : (xs : List EdgeId) (id : EdgeId) (i : ℕ) → IsBinarySearchResult (λ y. edge_cmp y id) xs (Ok i) → (i < length xs) × (number_at xs i ≡ id.0)
searched_found xs id i h = (within, equal (numbered 0))
  where
    equal : (d : EdgeId) → (get_or xs i d).0 ≡ id.0
    equal d = ranked (get_or xs i d).0 id.0 Equal (sym (h d))

    within : i < length xs
    within =
        elim (cases_lt i (length xs)) [
          | inl lt ↦ lt
          | inr past ↦ absurd (omega (arith, equal (numbered (id.0 + 1)), numbers_same (get_or_past xs i (numbered (id.0 + 1)) past)))
        ]

-- the edge that one found
pub block_found : (xs : List EdgeId) (id : EdgeId) (r : Result ℕ ℕ) → IsBinarySearchResult (λ y. edge_cmp y id) xs r → IfOk r (λ place. slice_get xs place ≡ Some id)
block_found xs id (Ok i) h =
    let found = searched_found xs id i h in
    slice_get-get_or xs i (numbered 0) found.0 ∙ ap (λ n. Some (numbered n)) found.1
block_found xs id (Err i) h = tt

-- what one says that didn't, where the numbers rise
pub searched_missed : (xs : List EdgeId) (id : EdgeId) (i : ℕ) → IsBinarySearchResult (λ y. edge_cmp y id) xs (Err i) →
    ((j k : ℕ) → j ≤ k → k < length xs → number_at xs j ≤ number_at xs k) →
    (i ≤ length xs) × AllBelow id xs i × AllAbove id xs i
searched_missed xs id i h rises = (
  elim (cases_lt (length xs) i) [
    | inl past ↦ absurd (omega (arith, below (length xs) id past, numbers_same (get_or_past xs (length xs) id (omega arith))))
    | inr le ↦ le
  ],
  λ k low. below k (numbered 0) low,
  above,
)
  where
    higher : (a b x : ℕ) → a ≤ b → ordering_index (nat_cmp a x) ≤ ordering_index (nat_cmp b x)
    higher a b x le = grind (arith, tests)

    parted : IsPartitionPoint (λ y. edge_cmp y id ≡ Less) (λ y. edge_cmp y id ≡ Greater) xs i
    parted = h (λ j k d le lt. higher (get_or xs j d).0 (get_or xs k d).0 id.0 (omega (arith, rises j k le lt, number_default xs j d (omega arith), number_default xs k d lt)))

    below : (k : ℕ) (d : EdgeId) → k < i → (get_or xs k d).0 < id.0
    below k d low = ranked (get_or xs k d).0 id.0 Less (sym (parted.0 k d (omega arith) low))

    above : (k : ℕ) → i ≤ k → k < length xs → id.0 < number_at xs k
    above k low high = ranked (number_at xs k) id.0 Greater (sym (parted.1 k (numbered 0) low high))
