-- A list that is followed by another: what is spliced into it, and where a number stands in it.
use Rattle.std.proofs.Common.{◌≡◌, ◌∙◌, ℕ, ◌+◌, ◌-◌, ◌<◌, ◌≤◌, List, [], ◌∷◌, ◌++◌, length, take, drop, get_or, slice_get, Some, None, Result, Ok, Err, IfOk, IfErr, MatchResult, Less, inl, inr, ap, sym, arith, append_assoc, length-append}
use Rattle.std.specs.List.{AllByRecursion}
use Rattle.std.specs.List.Sorted.{IsStrictlySortedBy, IsBinarySearchResult}
use Rattle.std.proofs.lemmas.Bool.{cases_lt}
use Rattle.std.proofs.lemmas.List.{take-append-le, drop-append-le, get_or_append_left, get_or-append-add}
use Rattle.std.proofs.lemmas.Option.{slice_get-get_or, slice_get_past, slice_get_within, get_or_from_slice_get}
use Rattle.std.proofs.Math.Seq.{take-append-add, drop-append-add}
use Rattle.pgs_base.specs.declared.element.EdgeId.{EdgeId}
use Rattle.pgs_base.specs.Graph.{edge_cmp}
use Rattle.pgs_base.specs.Places.{IsKeyAt, IsKeyGap}
use Rattle.pgs_tables_edges.specs.Numbers.{numbered, number_at, AllBelow, AllAbove, IsBetween}
use Rattle.pgs_tables_edges.proofs.Searched.{numbers_same, ascends, searched_found, searched_missed, key_here, key_between}
use Rattle.pgs_tables_edges.proofs.Joined.{no_first}

module _ {A : Type 0} (xs ys : List A) where
  -- items in the place of a range that lies behind the first list
  pub spliced_behind : (from to : ℕ) (ids : List A) → length xs ≤ from → length xs ≤ to →
      take from (xs ++ ys) ++ (ids ++ drop to (xs ++ ys)) ≡ xs ++ (take (from - length xs) ys ++ (ids ++ drop (to - length xs) ys))
  spliced_behind from to ids le after =
      let a : from ≡ length xs + (from - length xs) = omega arith in
      let b : to ≡ length xs + (to - length xs) = omega arith in
      ap (λ l. l ++ (ids ++ drop to (xs ++ ys))) (ap (λ n. take n (xs ++ ys)) a ∙ take-append-add xs ys (from - length xs))
      ∙ ap (λ l. (xs ++ take (from - length xs) ys) ++ (ids ++ l)) (ap (λ n. drop n (xs ++ ys)) b ∙ drop-append-add xs ys (to - length xs))
      ∙ append_assoc xs (take (from - length xs) ys) (ids ++ drop (to - length xs) ys)

  -- items in the place of a range that lies in the first list
  pub spliced_within : (from to : ℕ) (ids : List A) → from ≤ length xs → to ≤ length xs →
      take from (xs ++ ys) ++ (ids ++ drop to (xs ++ ys)) ≡ (take from xs ++ (ids ++ drop to xs)) ++ ys
  spliced_within from to ids le within =
      ap (λ l. l ++ (ids ++ drop to (xs ++ ys))) (take-append-le from xs ys le)
      ∙ ap (λ l. take from xs ++ (ids ++ l)) (drop-append-le to xs ys within)
      ∙ ap (λ l. take from xs ++ l) (sym (append_assoc ids (drop to xs) ys))
      ∙ sym (append_assoc (take from xs) (ids ++ drop to xs) ys)

-- what stands at a place of either list
pub read_first : {A : Type 0} (xs ys : List A) (place : ℕ) (d : A) → place < length xs → slice_get xs place ≡ slice_get (xs ++ ys) place
read_first xs ys place d lt =
    slice_get-get_or xs place d lt ∙ ap Some (sym (get_or_append_left xs ys d place lt))
    ∙ sym (slice_get-get_or (xs ++ ys) place d (omega (arith, length-append xs ys)))

pub read_behind : {A : Type 0} (xs ys : List A) (place : ℕ) (d : A) → length xs ≤ place → slice_get ys (place - length xs) ≡ slice_get (xs ++ ys) place
read_behind xs ys place d le =
    elim (cases_lt (place - length xs) (length ys)) [
      | inl lt ↦
          let plus : length xs + (place - length xs) ≡ place = omega arith in
          slice_get-get_or ys (place - length xs) d lt ∙ ap Some (sym (get_or-append-add xs ys (place - length xs) d) ∙ ap (λ n. get_or (xs ++ ys) n d) plus)
          ∙ sym (slice_get-get_or (xs ++ ys) place d (omega (arith, length-append xs ys)))
      | inr past ↦ slice_get_past ys (place - length xs) past ∙ sym (slice_get_past (xs ++ ys) place (omega (arith, length-append xs ys)))
    ]

all_first : {A : Type 0} (P : A → Type 0) (xs ys : List A) → AllByRecursion P (xs ++ ys) → AllByRecursion P xs
all_first P [] ys all = tt
all_first P (x ∷ xs) ys all = (all.0, all_first P xs ys all.1)

-- the first of two lists that ascend together
pub ascending_first : (xs ys : List EdgeId) → IsStrictlySortedBy edge_cmp (xs ++ ys) → IsStrictlySortedBy edge_cmp xs
unfolding IsStrictlySortedBy
ascending_first [] ys up = tt
ascending_first (x ∷ xs) ys up = (all_first (λ y. edge_cmp x y ≡ Less) xs ys up.0, ascending_first xs ys up.1)

module _ (xs ys : List EdgeId) (id : EdgeId) where
  number_first : (k : ℕ) → k < length xs → number_at (xs ++ ys) k ≡ number_at xs k
  number_first k lt = numbers_same (get_or_append_left xs ys (numbered 0) k lt)

  number_behind : (j : ℕ) → number_at (xs ++ ys) (length xs + j) ≡ number_at ys j
  number_behind j = numbers_same (get_or-append-add xs ys j (numbered 0))

  -- a number found in the first list
  pub found_first : IsStrictlySortedBy edge_cmp (xs ++ ys) → (place : ℕ) → slice_get xs place ≡ Some id → IsKeyAt edge_cmp id (xs ++ ys) place
  found_first up place found =
      let lt = slice_get_within xs place id found in
      key_here id (xs ++ ys) place up (omega (arith, lt, length-append xs ys)) (number_first place lt ∙ numbers_same (get_or_from_slice_get xs place id (numbered 0) found))

  -- the numbers of the second list are above the number
  pub between_first : (place : ℕ) → IsBetween id xs place → ((j : ℕ) → j < length ys → id.0 < number_at ys j) → IsBetween id (xs ++ ys) place
  between_first place between higher = record {
    in_range = omega (arith, between.in_range, length-append xs ys);
    below = λ k low. omega (arith, number_first k (omega (arith, between.in_range)), between.below k low);
    above = λ k low high.
        elim (cases_lt k (length xs)) [
          | inl lt ↦ omega (arith, number_first k lt, between.above k low lt)
          | inr past ↦
              let plus : length xs + (k - length xs) ≡ k = omega arith in
              omega (arith, ap (number_at (xs ++ ys)) plus, number_behind (k - length xs), higher (k - length xs) (omega (arith, length-append xs ys)))
        ];
  }

  -- a number found in the second list
  pub found_behind : IsStrictlySortedBy edge_cmp (xs ++ ys) → (j : ℕ) → IsBinarySearchResult (λ y. edge_cmp y id) ys (Ok j) →
      (j < length ys) × (slice_get (xs ++ ys) (length xs + j) ≡ Some id) × IsKeyAt edge_cmp id (xs ++ ys) (length xs + j)
  found_behind up j h =
      let found = searched_found ys id j h in
      let within : length xs + j < length (xs ++ ys) = omega (arith, found.0, length-append xs ys) in
      let here = number_behind j ∙ found.1 in
      (found.0, slice_get-get_or (xs ++ ys) (length xs + j) (numbered 0) within ∙ ap (λ n. Some (numbered n)) here, key_here id (xs ++ ys) (length xs + j) up within here)

  rises_behind : IsStrictlySortedBy edge_cmp (xs ++ ys) → (j k : ℕ) → j ≤ k → k < length ys → number_at ys j ≤ number_at ys k
  rises_behind up j k le high =
      elim (cases_lt j k) [
        | inl earlier ↦
            omega (arith, ascends (xs ++ ys) (length xs + j) (length xs + k) up (omega arith) (omega (arith, length-append xs ys)), number_behind j, number_behind k)
        | inr same ↦ let e : j ≡ k = omega arith in rw e (omega arith)
      ]

  -- a number not found in the second list, which begins with one that is not above it
  pub between_behind : IsStrictlySortedBy edge_cmp (xs ++ ys) → (first : EdgeId) → slice_get ys 0 ≡ Some first → first.0 ≤ id.0 →
      (j : ℕ) → IsBinarySearchResult (λ y. edge_cmp y id) ys (Err j) → IsBetween id (xs ++ ys) (length xs + j)
  between_behind up first begins le j h = record {
    in_range = omega (arith, missed.0, length-append xs ys);
    below = λ k low.
        elim (cases_lt k (length xs)) [
          | inl lt ↦
              let some = slice_get_within ys 0 first begins in
              omega (arith, ascends (xs ++ ys) k (length xs + 0) up (omega arith) (omega (arith, some, length-append xs ys)), number_behind 0, numbers_same (get_or_from_slice_get ys 0 first (numbered 0) begins))
          | inr past ↦
              let plus : length xs + (k - length xs) ≡ k = omega arith in
              omega (arith, ap (number_at (xs ++ ys)) plus, number_behind (k - length xs), missed.1 (k - length xs) (omega arith))
        ];
    above = λ k low high.
        let plus : length xs + (k - length xs) ≡ k = omega arith in
        omega (arith, ap (number_at (xs ++ ys)) plus, number_behind (k - length xs), missed.2 (k - length xs) (omega arith) (omega (arith, length-append xs ys)));
  }
    where
      missed : (j ≤ length ys) × AllBelow id ys j × AllAbove id ys j
      missed = searched_missed ys id j h (rises_behind up)

  -- the numbers of the second list are above one that is below its first
  pub above_behind : IsStrictlySortedBy edge_cmp (xs ++ ys) → (first : EdgeId) → slice_get ys 0 ≡ Some first → id.0 < first.0 → (j : ℕ) → j < length ys → id.0 < number_at ys j
  above_behind up first begins less j lt =
      omega (arith, rises_behind up 0 j (omega arith) lt, numbers_same (get_or_from_slice_get ys 0 first (numbered 0) begins))

  -- what a search of the first list says of both
  pub searched_first : IsStrictlySortedBy edge_cmp (xs ++ ys) → ((j : ℕ) → j < length ys → id.0 < number_at ys j) → (r : Result ℕ ℕ) →
      IfOk r (λ place. slice_get xs place ≡ Some id) → IfErr r (IsBetween id xs) → MatchResult r (IsKeyAt edge_cmp id (xs ++ ys)) (IsKeyGap edge_cmp id (xs ++ ys))
  searched_first up higher (Ok place) found between = found_first up place found
  searched_first up higher (Err place) found between = key_between id (xs ++ ys) place up (between_first place between higher)

  pub read_searched : (r : Result ℕ ℕ) → IfOk r (λ place. slice_get xs place ≡ Some id) → IfOk r (λ place. slice_get (xs ++ ys) place ≡ Some id)
  read_searched (Ok place) found = sym (read_first xs ys place (numbered 0) (slice_get_within xs place id found)) ∙ found
  read_searched (Err place) found = tt

  -- no number of the second list is below its first
  pub none_behind : slice_get ys 0 ≡ None → (j : ℕ) → j < length ys → id.0 < number_at ys j
  none_behind none j lt = absurd (omega (arith, lt, ap length (no_first ys none)))
