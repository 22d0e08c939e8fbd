-- The first of ascending keys from a key on, as a search and as a part of a tree find it.
use Rattle.std.proofs.Common.{◌≡◌, ℕ, zero, suc, ◌≤◌, ◌<◌, Bool, true, false, cond, ◌&&◌, ◌||◌, List, [], ◌∷◌, length, get_or, slice_get, option_map, Some, None, refl, sym, ◌∙◌, ap, true≢false, arith, nat_lt, Ordering, Less, Equal, Greater, is_eq, is_gt, filter}
use Rattle.std.specs.BTreeMap.{is_at}
use Rattle.std.specs.Cmp.{IsTotalOrder, Equal-is, tied_itself}
use Rattle.std.specs.Ordering.{is_le, ordering_reverse}
use Rattle.std.specs.List.{AllByRecursion, AllWithin, find, list_any}
use Rattle.std.specs.List.Sorted.{IsPartitionedBy, IsPartitionPoint, IsStrictlySortedBy}
use Rattle.std.proofs.lemmas.Bool.{ltb-true, ltb-false, or_left, or_right}
use Rattle.std.proofs.lemmas.Option.{slice_get_read, slice_get_past}
use Rattle.std.specs.Map.{keys_of}
use Rattle.pgs_base.proofs.Places.{IsParted}

not_from : (o : Ordering) → is_gt o ≡ true → is_le o ≡ false
not_from Less h = sym h
not_from Equal h = sym h
not_from Greater h = refl

then_from : (o : Ordering) → is_gt o ≡ false → is_le o ≡ true
then_from Less h = refl
then_from Equal h = refl
then_from Greater h = sym h

abbrev is_from : {K : Type 0} → (K → Ordering) → K → Bool
is_from compare key = is_le (compare key)

module _ {K V : Type 0} (compare : K → Ordering) where
  abbrev is_before : K × V → Bool
  is_before row = is_gt (compare row.0)

  not_before : (rows : List (K × V)) → AllByRecursion (λ row. compare row.0 ≡ Less) rows → (j : ℕ) (d : K × V) → j < length rows → is_before (get_or rows j d) ≡ false
  not_before [] all j d inside = absurd (omega arith)
  not_before (row ∷ rows) all zero d inside = ap is_gt all.0
  not_before (row ∷ rows) all (suc j) d inside = not_before rows all.1 j d (omega arith)

  -- those before a key come first
  pub parted_before : (rows : List (K × V)) → IsParted (λ row. compare row.0) rows → IsPartitionedBy is_before rows
  parted_before [] parted i j d upto inside before = absurd (omega arith)
  parted_before (row ∷ rows) parted zero zero d upto inside before = before
  parted_before (row ∷ rows) parted zero (suc j) d upto inside before = by (is_before row) refl
    where
      by : (b : Bool) → is_before row ≡ b → b ≡ true
      by true e = refl
      by false e = sym (not_before rows (parted.0 e) j d (omega arith)) ∙ before
  parted_before (row ∷ rows) parted (suc i) zero d upto inside before = absurd (omega arith)
  parted_before (row ∷ rows) parted (suc i) (suc j) d upto inside before = parted_before rows parted.1 i j d (omega arith) (omega arith) before

  -- what stands where those before a key end is the first
  first_at : (rows : List (K × V)) (i : ℕ) → i ≤ length rows → AllWithin (λ row. is_before row ≡ true) rows 0 i → AllWithin (λ row. is_before row ≡ false) rows i (length rows) →
      option_map (λ row. row.0) (slice_get rows i) ≡ find (is_from compare) (keys_of rows)
  first_at [] zero within before after = refl
  first_at [] (suc i) within before after = absurd (omega arith)
  first_at (row ∷ rows) zero within before after = rw (then_from (compare row.0) (after 0 row (omega arith) (omega arith))) refl
  first_at (row ∷ rows) (suc i) within before after =
      rw (not_from (compare row.0) (before 0 row (omega arith) (omega arith)))
      (first_at rows i (omega arith) (λ k d low high. before (suc k) d (omega arith) (omega arith)) (λ k d low high. after (suc k) d (omega arith) (omega arith)))

  module _ (rows : List (K × V)) (i : ℕ) (within : i ≤ length rows) (point : IsPartitionPoint (λ row. is_before row ≡ true) (λ row. is_before row ≡ false) rows i) where
    pub first_there : (row : K × V) → true ≡ nat_lt i (length rows) → row ≡ get_or rows i row → Some row.0 ≡ find (is_from compare) (keys_of rows)
    first_there row inside is =
        ap (option_map (λ row. row.0)) (sym (slice_get_read rows (length rows) i row refl (ltb-true i (length rows) (sym inside)) is)) ∙ first_at rows i within point.0 point.1

    pub none_there : false ≡ nat_lt i (length rows) → None ≡ find (is_from compare) (keys_of rows)
    none_there past = ap (option_map (λ row. row.0)) (sym (slice_get_past rows i (ltb-false i (length rows) (sym past)))) ∙ first_at rows i within point.0 point.1

  -- the first of those that aren't before a key
  pub first_of_part : (rows : List (K × V)) (row : K × V) (part : List (K × V)) → filter (λ row. is_from compare row.0 && true) rows ≡ row ∷ part → Some row.0 ≡ find (is_from compare) (keys_of rows)
  first_of_part [] row part is = cc
  first_of_part (first ∷ rows) row part is = by (is_from compare first.0) is (first_of_part rows row part)
    where
      by : (b : Bool) → cond (b && true) (first ∷ filter (λ row. is_from compare row.0 && true) rows) (filter (λ row. is_from compare row.0 && true) rows) ≡ row ∷ part →
          (filter (λ row. is_from compare row.0 && true) rows ≡ row ∷ part → Some row.0 ≡ find (is_from compare) (keys_of rows)) →
          Some row.0 ≡ cond b (Some first.0) (find (is_from compare) (keys_of rows))
      by true is rest = let same : first ≡ row = cc in ap (λ (row : K × V). Some row.0) (sym same)
      by false is rest = rest is

  pub none_of_part : (rows : List (K × V)) → filter (λ row. is_from compare row.0 && true) rows ≡ [] → None ≡ find (is_from compare) (keys_of rows)
  none_of_part [] is = refl
  none_of_part (first ∷ rows) is = by (is_from compare first.0) is (none_of_part rows)
    where
      by : (b : Bool) → cond (b && true) (first ∷ filter (λ row. is_from compare row.0 && true) rows) (filter (λ row. is_from compare row.0 && true) rows) ≡ [] →
          (filter (λ row. is_from compare row.0 && true) rows ≡ [] → None ≡ find (is_from compare) (keys_of rows)) →
          None ≡ cond b (Some first.0) (find (is_from compare) (keys_of rows))
      by true is rest = cc
      by false is rest = rest is

-- ---- what a caller knows of the first from a key on

module _ {K : Type 0} {cmp : K → K → Ordering} (total : IsTotalOrder cmp) where
  -- keys that tie compare the same with another one
  tied_second : (other key tied : K) → is_at (cmp key) tied ≡ true → cmp other tied ≡ cmp other key
  tied_second other key tied tie =
      total.antisymm other tied ∙ ap ordering_reverse (sym (total.congr key tied other ((Equal-is (cmp key tied)).0 tie))) ∙ sym (total.antisymm other key)

  below_found : (key : K) (keys : List K) → AllByRecursion (λ y. cmp key y ≡ Less) keys → (other : K) → list_any (is_at (cmp other)) keys ≡ true → cmp key other ≡ Less
  below_found key [] all other there = absurd (true≢false (sym there))
  below_found key (y ∷ ys) all other there = by (is_at (cmp other) y) refl there (below_found key ys all.1 other)
    where
      by : (b : Bool) → is_at (cmp other) y ≡ b → (b || list_any (is_at (cmp other)) ys) ≡ true → (list_any (is_at (cmp other)) ys ≡ true → cmp key other ≡ Less) →
          cmp key other ≡ Less
      by true tie there rest = sym (tied_second key other y tie) ∙ all.0
      by false apart there rest = rest there

  module _ (start : K) where
    at_from : (key tied : K) → is_gt (cmp start key) ≡ false → is_at (cmp key) tied ≡ true → is_from (cmp start) tied ≡ true
    at_from key tied from tie = then_from (cmp start tied) (ap is_gt (tied_second start key tied tie) ∙ from)

    not_past : (o : Ordering) → is_le o ≡ true → is_gt o ≡ false
    not_past Less h = refl
    not_past Equal h = refl
    not_past Greater h = sym h

    -- the first is one of the keys, and not below the start
    pub first_among : (keys : List K) (first : K) → find (is_from (cmp start)) keys ≡ Some first →
        (list_any (is_at (cmp first)) keys ≡ true) × (is_gt (cmp start first) ≡ false)
    first_among [] first is = cc
    first_among (key ∷ keys) first is = by (is_from (cmp start) key) refl is (first_among keys first)
      where
        by : (b : Bool) → is_from (cmp start) key ≡ b → cond b (Some key) (find (is_from (cmp start)) keys) ≡ Some first →
            (find (is_from (cmp start)) keys ≡ Some first → (list_any (is_at (cmp first)) keys ≡ true) × (is_gt (cmp start first) ≡ false)) →
            (list_any (is_at (cmp first)) (key ∷ keys) ≡ true) × (is_gt (cmp start first) ≡ false)
        by true from is rest =
            let same : key ≡ first = cc in (
              or_left (is_at (cmp first) key) (list_any (is_at (cmp first)) keys) (ap (is_at (cmp first)) same ∙ ap is_eq (tied_itself total first)),
              ap (λ key. is_gt (cmp start key)) (sym same) ∙ not_past (cmp start key) from,
            )
        by false below is rest =
            let found = rest is in (or_right (is_at (cmp first) key) (list_any (is_at (cmp first)) keys) found.0, found.1)

    -- no other key that isn't below the start is below the first
    pub first_least : (keys : List K) → IsStrictlySortedBy cmp keys → (first : K) → find (is_from (cmp start)) keys ≡ Some first →
        (key : K) → is_gt (cmp start key) ≡ false → list_any (is_at (cmp key)) keys ≡ true → is_gt (cmp first key) ≡ false
    unfolding IsStrictlySortedBy
    first_least [] sorted first is key from there = cc
    first_least (least ∷ keys) sorted first is key from there =
        by (is_from (cmp start) least) refl is (is_at (cmp key) least) refl there (λ is there. first_least keys sorted.1 first is key from there)
      where
        by : (b : Bool) → is_from (cmp start) least ≡ b → cond b (Some least) (find (is_from (cmp start)) keys) ≡ Some first →
            (c : Bool) → is_at (cmp key) least ≡ c → (c || list_any (is_at (cmp key)) keys) ≡ true →
            (find (is_from (cmp start)) keys ≡ Some first → list_any (is_at (cmp key)) keys ≡ true → is_gt (cmp first key) ≡ false) →
            is_gt (cmp first key) ≡ false
        by true passes is true tie there rest =
            let same : least ≡ first = cc in
            ap (λ first. is_gt (cmp first key)) (sym same) ∙ ap is_gt (sym (tied_second least key least tie) ∙ tied_itself total least)
        by true passes is false apart there rest =
            let same : least ≡ first = cc in
            ap (λ first. is_gt (cmp first key)) (sym same) ∙ ap is_gt (below_found least keys sorted.0 key there)
        by false fails is true tie there rest = absurd (true≢false (sym (at_from key least from tie) ∙ fails))
        by false fails is false apart there rest = rest is there

    -- where there is no first, no key is there that isn't below the start
    pub none_from : (keys : List K) → find (is_from (cmp start)) keys ≡ None → (key : K) → is_gt (cmp start key) ≡ false → list_any (is_at (cmp key)) keys ≡ false
    none_from [] none key from = refl
    none_from (least ∷ keys) none key from = by (is_from (cmp start) least) refl none (is_at (cmp key) least) refl (λ none. none_from keys none key from)
      where
        by : (b : Bool) → is_from (cmp start) least ≡ b → cond b (Some least) (find (is_from (cmp start)) keys) ≡ None →
            (c : Bool) → is_at (cmp key) least ≡ c → (find (is_from (cmp start)) keys ≡ None → list_any (is_at (cmp key)) keys ≡ false) →
            (c || list_any (is_at (cmp key)) keys) ≡ false
        by true passes none c tie rest = cc
        by false fails none true tie rest = absurd (true≢false (sym (at_from key least from tie) ∙ fails))
        by false fails none false apart rest = rest none
