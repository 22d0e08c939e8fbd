-- Rows whose tuples' marks are all different share no key value.
use Rattle.std.proofs.Common.{◌≡◌, ℕ, zero, suc, ◌+◌, ◌<◌, ◌≤◌, Bool, true, false, ◌||◌, cond, nat_eq, List, [], ◌∷◌, ◌++◌, map, get_or, length, Option, Some, None, refl, sym, ap, ◌∙◌, subst, arith}
use Rattle.std.specs.Prelude.{find, filter_map, flat_map, slice_get, option_map, count_by}
use Rattle.std.specs.BTreeMap.{is_at}
use Rattle.std.specs.List.{list_any, cons_option}
use Rattle.std.proofs.lemmas.Bool.{eq-eqb, eqb-true, ne_eqb}
use Rattle.std.proofs.lemmas.List.Sums.{sum_by-cons, sum_by-append}
use Rattle.pgs_base.specs.declared.part.Part.{Part}
use Rattle.pgs_base.specs.Order.{tuple_cmp}
use Rattle.pgs_violation.specs.declared.violation.Violation.TheVariants.{Exclusive}
use Rattle.pgs_violation.specs.Violations.{shared_tuple}
use Rattle.pgs_keyindex.proofs.Entered.{same_tuple}
use Rattle.pgs_scratch.specs.declared.key_row.KeyRow.{KeyRow}
use Rattle.pgs_scratch.specs.Marks.{mark_of, marks_of}
use Rattle.pgs_scratch.specs.Rows.{shared_value, shared_values}

-- ---- how often a number is there

abbrev pub count : ℕ → List ℕ → ℕ
count n xs = count_by (nat_eq n) xs

abbrev one_if : Bool → ℕ
one_if b = cond b 1 0

more : (n x : ℕ) (xs : List ℕ) → count n (x ∷ xs) ≡ one_if (nat_eq n x) + count n xs
more n x xs = sum_by-cons (λ y. one_if (nat_eq n y)) x xs

both : (n : ℕ) (xs ys : List ℕ) → count n (xs ++ ys) ≡ count n xs + count n ys
both n xs ys = sum_by-append (λ y. one_if (nat_eq n y)) xs ys

own : (n x : ℕ) (xs : List ℕ) → n ≡ x → 1 ≤ count n (x ∷ xs)
own n x xs same =
    let step = more n x xs in
    let one : one_if (nat_eq n x) ≡ 1 = ap one_if (eq-eqb n x same) in
    omega arith

later : (n x : ℕ) (xs : List ℕ) → count n xs ≤ count n (x ∷ xs)
later n x xs = let step = more n x xs in omega arith

differ : (n x : ℕ) → n < x → nat_eq n x ≡ false
differ n x less = ne_eqb n x (λ same. let e : n ≡ x = same in omega arith)

-- where each number is greater than the one before it, none is there twice
none_below : (n : ℕ) (xs : List ℕ) → ((k : ℕ) → k < length xs → n < get_or xs k 0) → count n xs ≡ 0
none_below n [] above = refl
none_below n (x ∷ xs) above =
    let first : n < x = above 0 (omega arith) in
    let none : one_if (nat_eq n x) ≡ 0 = ap one_if (differ n x first) in
    let step = more n x xs in
    let rest : count n xs ≡ 0 = none_below n xs (λ k below. above (suc k) (omega arith)) in
    omega arith

abbrev Rises : List ℕ → Type 0
Rises xs = (k : ℕ) → k + 1 < length xs → get_or xs k 0 < get_or xs (k + 1) 0

later_rises : (x : ℕ) (xs : List ℕ) → Rises (x ∷ xs) → Rises xs
later_rises x xs rises k below =
    let same : suc k + 1 ≡ suc (k + 1) = omega arith in
    subst (λ j. get_or xs k 0 < get_or (x ∷ xs) j 0) same (rises (suc k) (omega arith))

above_first : (x : ℕ) (xs : List ℕ) → Rises (x ∷ xs) → (k : ℕ) → k < length xs → x < get_or xs k 0
above_first x xs rises zero below = rises 0 (omega arith)
above_first x xs rises (suc k) below =
    let before : x < get_or xs k 0 = above_first x xs rises k (omega arith) in
    let same : k + 1 ≡ suc k = omega arith in
    let next : get_or xs k 0 < get_or xs (suc k) 0 = subst (λ j. get_or xs k 0 < get_or xs j 0) same (later_rises x xs rises k (omega arith)) in
    omega arith

pub once : (xs : List ℕ) → ((k : ℕ) → k + 1 < length xs → get_or xs k 0 < get_or xs (k + 1) 0) → (n : ℕ) → count n xs ≤ 1
once [] rises n = omega arith
once (x ∷ xs) rises n = by (nat_eq n x) refl (once xs (later_rises x xs rises) n)
  where
    by : (b : Bool) → nat_eq n x ≡ b → count n xs ≤ 1 → count n (x ∷ xs) ≤ 1
    by true is rest =
        let same : n ≡ x = eqb-true n x is in
        let none = none_below n xs (λ k below. subst (λ m. m < get_or xs k 0) (sym same) (above_first x xs rises k below)) in
        let step = more n x xs in
        let one : one_if (nat_eq n x) ≡ 1 = ap one_if is in
        omega arith
    by false is rest =
        let step = more n x xs in
        let none : one_if (nat_eq n x) ≡ 0 = ap one_if is in
        omega arith

-- ---- a tuple that is there has its mark there

has_mark : (t : List Part) (tuples : List (List Part)) → list_any (is_at (tuple_cmp t)) tuples ≡ true → 1 ≤ count (mark_of t) (map mark_of tuples)
has_mark t [] h = cc
has_mark t (x ∷ xs) h = by (is_at (tuple_cmp t) x) refl h (has_mark t xs)
  where
    by : (b : Bool) → is_at (tuple_cmp t) x ≡ b → (b || list_any (is_at (tuple_cmp t)) xs) ≡ true →
        (list_any (is_at (tuple_cmp t)) xs ≡ true → 1 ≤ count (mark_of t) (map mark_of xs)) → 1 ≤ count (mark_of t) (map mark_of (x ∷ xs))
    by true is some rest = own (mark_of t) (mark_of x) (map mark_of xs) (ap mark_of (same_tuple t x is))
    by false is some rest = let one = rest some in let more = later (mark_of t) (mark_of x) (map mark_of xs) in omega arith

found_mark : (p : List Part → Bool) (tuples : List (List Part)) (t : List Part) → find p tuples ≡ Some t → (p t ≡ true) × (1 ≤ count (mark_of t) (map mark_of tuples))
found_mark p [] t h = cc
found_mark p (x ∷ xs) t h = by (p x) refl h (found_mark p xs t)
  where
    by : (b : Bool) → p x ≡ b → cond b (Some x) (find p xs) ≡ Some t →
        (find p xs ≡ Some t → (p t ≡ true) × (1 ≤ count (mark_of t) (map mark_of xs))) → (p t ≡ true) × (1 ≤ count (mark_of t) (map mark_of (x ∷ xs)))
    by true is found rest =
        let same : x ≡ t = cc in
        (subst (λ z. p z ≡ true) same is, own (mark_of t) (mark_of x) (map mark_of xs) (ap mark_of (sym same)))
    by false is found rest =
        let there = rest found in
        let more = later (mark_of t) (mark_of x) (map mark_of xs) in
        (there.0, omega (arith, there.1))

-- ---- rows

abbrev tests : List (List Part) → List Part → Bool
tests second tuple = list_any (is_at (tuple_cmp tuple)) second

none_shared : (first second : List (List Part)) → ((n : ℕ) → count n (map mark_of first) + count n (map mark_of second) ≤ 1) → shared_tuple first second ≡ None
none_shared first second few = by (shared_tuple first second) refl
  where
    by : (o : Option (List Part)) → shared_tuple first second ≡ o → o ≡ None
    by None is = refl
    by (Some t) is =
        let found = found_mark (tests second) first t is in
        let other = has_mark t second found.0 in
        let most = few (mark_of t) in
        absurd (omega (arith, found.1))

no_sharer : (number : ℕ) (row : KeyRow) (rows : List KeyRow) → ((n : ℕ) → count n (marks_of row) + count n (flat_map marks_of rows) ≤ 1) →
    filter_map (shared_value number row) rows ≡ []
no_sharer number row [] few = refl
no_sharer number row (other ∷ rows) few =
    let none = none_shared row.tuples other.tuples
    (λ n. let most = few n in let sum = both n (marks_of other) (flat_map marks_of rows) in omega arith) in
    ap (λ o. cons_option (option_map (Exclusive number row.elem other.elem) o) (filter_map (shared_value number row) rows)) none
    ∙ no_sharer number row rows (λ n. let most = few n in let sum = both n (marks_of other) (flat_map marks_of rows) in omega arith)

pub apart : (number : ℕ) (rows : List KeyRow) → ((n : ℕ) → count n (flat_map marks_of rows) ≤ 1) → shared_values number rows ≡ []
apart number [] few = refl
apart number (row ∷ rows) few =
    ap (λ (found : List _). cons_option (slice_get found 0) (shared_values number rows))
    (no_sharer number row rows (λ n. let most = few n in let sum = both n (marks_of row) (flat_map marks_of rows) in omega arith))
    ∙ apart number rows (λ n. let most = few n in let sum = both n (marks_of row) (flat_map marks_of rows) in omega arith)
