-- Items whose places differ, in the order of their places: each comes strictly before those behind it.
use Rattle.std.proofs.Common.{◌≡◌, ℕ, suc, ◌+◌, ◌≤◌, ◌==◌, Bool, true, false, cond, ◌&&◌, ◌||◌, not, nat_lt, List, [], ◌∷◌, map, refl, sym, ◌∙◌, subst, arith, true≢false}
use Rattle.std.specs.List.{list_any, list_all, All}
use Rattle.std.specs.List.Sorted.{IsPermutation, IsNonDecreasingBy}
use Rattle.std.proofs.lemmas.Bool.{and_parts, and_from, eqb-true, eqb-false, not-true, lt-ltb}
use Rattle.pgs_syntax.specs.Valid.{are_distinct}
use Rattle.pgs_width.specs.declared.sized.SizedType.{SizedType}
use Rattle.pgs_width.proofs.Totals.{total, total_map, total_permutation}

abbrev place_of : SizedType → ℕ
place_of type = type.place

-- how often a number stands in a list
abbrev times : ℕ → List ℕ → ℕ
times n ns = total (λ m. cond (m == n) 1 0) ns

never : (n : ℕ) (ns : List ℕ) → list_any (λ m. n == m) ns ≡ false → times n ns ≡ 0
never n [] h = refl
never n (m ∷ ns) h = by (m == n) refl (or_parts (n == m) (list_any (λ k. n == k) ns) h) (never n ns)
  where
    or_parts : (a b : Bool) → (a || b) ≡ false → (a ≡ false) × (b ≡ false)
    or_parts true b e = absurd (true≢false e)
    or_parts false b e = (refl, e)

    by : (b : Bool) → (m == n) ≡ b → ((n == m) ≡ false) × (list_any (λ k. n == k) ns ≡ false) →
        (list_any (λ k. n == k) ns ≡ false → times n ns ≡ 0) → cond b 1 0 + times n ns ≡ 0
    by true same parts rest = let e : m ≡ n = eqb-true m n same in let ne : n ≡ m → ⊥ = eqb-false n m parts.0 in absurd (ne (sym e))
    by false other parts rest = let e = rest parts.1 in omega (arith, e)

once : (n : ℕ) (ns : List ℕ) → are_distinct (λ a b. a == b) ns ≡ true → times n ns ≤ 1
once n [] h = omega arith
once n (m ∷ ns) h = by (m == n) refl (and_parts _ _ h) (once n ns)
  where
    by : (b : Bool) → (m == n) ≡ b → (not (list_any (λ k. m == k) ns) ≡ true) × (are_distinct (λ a c. a == c) ns ≡ true) →
        (are_distinct (λ a c. a == c) ns ≡ true → times n ns ≤ 1) → cond b 1 0 + times n ns ≤ 1
    by true same parts rest =
        let e : times n ns ≡ 0 = subst (λ k. times k ns ≡ 0) (eqb-true m n same) (never m ns (not-true _ parts.0)) in omega (arith, e)
    by false other parts rest = let e = rest parts.1 in omega (arith, e)

-- each item comes strictly before those behind it
abbrev pub rises : List SizedType → Bool
rises [] = true
rises (type ∷ types) = list_all (λ later. nat_lt type.place later.place) types && rises types

later : (n : ℕ) (types : List SizedType) → times n (map place_of types) ≤ 0 → All (λ type. n ≤ type.place) types → list_all (λ type. nat_lt n type.place) types ≡ true
later n [] h all = refl
later n (type ∷ types) h all = by (type.place == n) refl h (later n types)
  where
    by : (b : Bool) → (type.place == n) ≡ b → cond b 1 0 + times n (map place_of types) ≤ 0 →
        (times n (map place_of types) ≤ 0 → All (λ other. n ≤ other.place) types → list_all (λ other. nat_lt n other.place) types ≡ true) →
        list_all (λ other. nat_lt n other.place) (type ∷ types) ≡ true
    by true same count rest = absurd (omega arith)
    by false other count rest =
        let ne : type.place ≡ n → ⊥ = eqb-false type.place n other in
        let first : n ≤ type.place = all 0 type (omega arith) in
        and_from _ _ (lt-ltb n type.place (omega arith))
        (rest (omega arith) (λ k d lt. all (suc k) d (omega arith)))

pub rises_from_sort : (types : List SizedType) → ((n : ℕ) → times n (map place_of types) ≤ 1) → IsNonDecreasingBy place_of types → rises types ≡ true
rises_from_sort [] h up = refl
rises_from_sort (type ∷ types) h up = and_from _ _
    (later type.place types (by (type.place == type.place) refl (h type.place)) (λ k d lt. up 0 (suc k) d (omega arith) (omega arith)))
    (rises_from_sort types (λ n. let e = h n in omega (arith, e)) (λ i j d le lt. up (suc i) (suc j) d (omega arith) (omega arith)))
  where
    by : (b : Bool) → (type.place == type.place) ≡ b → cond b 1 0 + times type.place (map place_of types) ≤ 1 → times type.place (map place_of types) ≤ 0
    by true same count = omega arith
    by false other count = let ne : type.place ≡ type.place → ⊥ = eqb-false type.place type.place other in absurd (ne refl)

pub rises_sorted : (entries types : List SizedType) → are_distinct (λ a b. a == b) (map place_of entries) ≡ true → IsPermutation entries types →
    IsNonDecreasingBy place_of types → rises types ≡ true
rises_sorted entries types distinct moved up = rises_from_sort types count up
  where
    count : (n : ℕ) → times n (map place_of types) ≤ 1
    count n =
        let e : times n (map place_of types) ≡ times n (map place_of entries) =
        total_map (λ m. cond (m == n) 1 0) place_of types ∙ total_permutation (λ (type : SizedType). cond (type.place == n) 1 0) entries types moved
        ∙ sym (total_map (λ m. cond (m == n) 1 0) place_of entries) in
        let f = once n (map place_of entries) distinct in omega (arith, e, f)
