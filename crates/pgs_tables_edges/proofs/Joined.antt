-- Parts one after another: where each starts, and a range of all their items.
use Rattle.std.proofs.Common.{◌≡◌, ℕ, zero, suc, ◌+◌, ◌-◌, ◌<◌, ◌≤◌, List, [], ◌∷◌, ◌++◌, length, Some, None, is_some, true≢false, slice_get, get_or, take, drop, min, refl, sym, ap, subst, ◌∙◌, arith, length-append, length-take}
use Rattle.std.specs.List.{flat_map}
use Rattle.std.proofs.lemmas.List.{take_more, append-nil, drop_all, drop-take, take_min, take-append-le, take-append-drop}
use Rattle.std.proofs.lemmas.Option.{get_or_from_slice_get, slice_get_within}
use Rattle.std.proofs.lemmas.List.Concat.{flat_map-append, get_or-flat_map}
use Rattle.pgs_tables_edges.specs.Starts.{StartFrom, IsPlaced}

-- the items of a range, of which either end may lie past the last
abbrev pub range : {A : Type 0} → ℕ → ℕ → List A → List A
range from to xs = drop from (take to xs)

drop-nil : {A : Type 0} (n : ℕ) → drop {A = A} n [] ≡ []
drop-nil zero = refl
drop-nil (suc n) = refl

pub range-nil : {A : Type 0} (from to : ℕ) → range {A = A} from to [] ≡ []
range-nil from zero = drop-nil from
range-nil from (suc to) = drop-nil from

-- a range over two lists
pub range-append : {A : Type 0} (from to : ℕ) (xs ys : List A) → range from to (xs ++ ys) ≡ range from to xs ++ range (from - length xs) (to - length xs) ys
range-append from to [] ys =
    let a : from - 0 ≡ from = omega arith in
    let b : to - 0 ≡ to = omega arith in
    rw (range-nil from to, a, b) refl
range-append zero zero (x ∷ xs) ys =
    let a : 0 - suc (length xs) ≡ 0 = omega arith in
    rw a refl
range-append zero (suc to) (x ∷ xs) ys =
    let a : 0 - suc (length xs) ≡ 0 - length xs = omega arith in
    let b : suc to - suc (length xs) ≡ to - length xs = omega arith in
    rw (a, b) (ap (λ l. x ∷ l) (range-append zero to xs ys))
range-append (suc from) zero (x ∷ xs) ys =
    let a : 0 - suc (length xs) ≡ 0 = omega arith in
    rw a (sym (drop-nil (suc from - suc (length xs))))
range-append (suc from) (suc to) (x ∷ xs) ys =
    let a : suc from - suc (length xs) ≡ from - length xs = omega arith in
    let b : suc to - suc (length xs) ≡ to - length xs = omega arith in
    rw (a, b) (range-append from to xs ys)

-- a list without a first item
pub no_first : {A : Type 0} (xs : List A) → slice_get xs 0 ≡ None → xs ≡ []
no_first [] e = refl
no_first (x ∷ xs) e = absurd (true≢false (ap is_some e))

-- a range that begins in the list, as the items from its begin on
pub range_from : {A : Type 0} (from to : ℕ) (xs : List A) → from ≤ to → from ≤ length xs → take (min to (length xs) - from) (drop from xs) ≡ range from to xs
range_from from to xs le within =
    let plus : from + (min to (length xs) - from) ≡ min to (length xs) = omega arith in
    sym (drop-take from (min to (length xs) - from) xs) ∙ ap (λ n. drop from (take n xs)) plus ∙ ap (drop from) (take_min to xs)

-- a range that begins past its end or past the last item
pub range_none : {A : Type 0} (from to : ℕ) (xs : List A) → min to (length xs) ≤ from → range from to xs ≡ []
range_none from to xs le = drop_all from (take to xs) (omega (arith, length-take to xs, le))

-- a range that ends in the first list
pub range-append_left : {A : Type 0} (from to : ℕ) (xs ys : List A) → to ≤ length xs → range from to (xs ++ ys) ≡ range from to xs
range-append_left from to xs ys le = ap (drop from) (take-append-le to xs ys le)

module _ {X A : Type 0} (start : X → ℕ) (first : X → A) (items : X → List A) where
  start_at : (n : ℕ) (xs : List X) (i : ℕ) (d : X) → i < length xs → StartFrom start first items n xs → (start (get_or xs i d) ≡ n + length (flat_map items (take i xs))) × (slice_get (items (get_or xs i d)) 0 ≡ Some (first (get_or xs i d)))
  start_at n [] i d lt s = absurd (omega arith)
  start_at n (x ∷ xs) zero d lt s = (omega (arith, s.0), s.1)
  start_at n (x ∷ xs) (suc i) d lt s =
      let rest = start_at (n + length (items x)) xs i d (omega arith) s.2 in
      (omega (arith, rest.0, length-append (items x) (flat_map items (take i xs))), rest.1)

  starts_push : (n : ℕ) (xs : List X) (x : X) → StartFrom start first items n xs → start x ≡ n + length (flat_map items xs) → slice_get (items x) 0 ≡ Some (first x) → StartFrom start first items n (xs ++ x ∷ [])
  starts_push n [] x s e f = (omega (arith, e), f, tt)
  starts_push n (y ∷ ys) x s e f = (s.0, s.1, starts_push (n + length (items y)) ys x s.2 (omega (arith, e, length-append (items y) (flat_map items ys))) f)

  starts_pop : (n : ℕ) (xs : List X) (x : X) → StartFrom start first items n (xs ++ x ∷ []) → StartFrom start first items n xs × (start x ≡ n + length (flat_map items xs))
  starts_pop n [] x s = (tt, omega (arith, s.0))
  starts_pop n (y ∷ ys) x s =
      let rest = starts_pop (n + length (items y)) ys x s.2 in
      ((s.0, s.1, rest.0), omega (arith, rest.1, length-append (items y) (flat_map items ys)))

  flat_map-push : (xs : List X) (x : X) → flat_map items (xs ++ x ∷ []) ≡ flat_map items xs ++ items x
  flat_map-push xs x = rw (flat_map-append items xs (x ∷ []), append-nil (items x)) refl

  -- a part put last
  pub placed_push : (count more : ℕ) (xs : List X) (x : X) → IsPlaced start first items count xs → start x ≡ count → slice_get (items x) 0 ≡ Some (first x) → more ≡ count + length (items x) → IsPlaced start first items more (xs ++ x ∷ [])
  placed_push count more xs x p e f m = record {
    counted = omega (arith, m, p.counted, ap length (flat_map-push xs x), length-append (flat_map items xs) (items x));
    starts = starts_push 0 xs x p.starts (omega (arith, e, p.counted)) f;
  }

  -- the last part taken off
  pub placed_pop : (count : ℕ) (xs : List X) (x : X) → IsPlaced start first items count (xs ++ x ∷ []) → IsPlaced start first items (start x) xs
  placed_pop count xs x p = let popped = starts_pop 0 xs x p.starts in record { counted = omega (arith, popped.1); starts = popped.0 }

  last_first : (n : ℕ) (xs : List X) (x : X) → StartFrom start first items n (xs ++ x ∷ []) → slice_get (items x) 0 ≡ Some (first x)
  last_first n [] x s = s.1
  last_first n (y ∷ ys) x s = last_first (n + length (items y)) ys x s.2

  first_kept : (front behind : List A) (a : A) → slice_get front 0 ≡ Some a → slice_get (front ++ behind) 0 ≡ Some a
  first_kept [] behind a e = cc
  first_kept (b ∷ front) behind a e = e

  -- the last part replaced by one with more items behind its own
  pub placed_joined : (count more : ℕ) (xs : List X) (x y : X) (behind : List A) → IsPlaced start first items count (xs ++ x ∷ []) →
      start y ≡ start x → first y ≡ first x → items y ≡ items x ++ behind → more ≡ count + length behind → IsPlaced start first items more (xs ++ y ∷ [])
  placed_joined count more xs x y behind p same_start same_first all m =
      let begun = (starts_pop 0 xs x p.starts).1 in
      placed_push (start x) more xs y (placed_pop count xs x p) same_start
      (ap (λ l. slice_get l 0) all ∙ first_kept (items x) behind (first x) (last_first 0 xs x p.starts) ∙ ap Some (sym same_first))
      (omega (arith, m, begun, p.counted, ap length (flat_map-push xs x), length-append (flat_map items xs) (items x), ap length all, length-append (items x) behind))

  -- the items before the next part
  pub joined_more : (xs : List X) (i : ℕ) (x : X) → i < length xs → x ≡ get_or xs i x → flat_map items (take (i + 1) xs) ≡ flat_map items (take i xs) ++ items x
  joined_more xs i x lt e = rw (take_more xs i x lt, ← e) (flat_map-push (take i xs) x)

  -- a range of the items before a part that starts at its end or later
  pub range_all : (from to : ℕ) (xs : List X) (i : ℕ) → to ≤ length (flat_map items (take i xs)) → range from to (flat_map items (take i xs)) ≡ range from to (flat_map items xs)
  range_all from to xs i le =
      sym (ap (λ l. range from to (flat_map items l)) (sym (take-append-drop i xs)) ∙ ap (range from to) (flat_map-append items (take i xs) (drop i xs)) ∙ range-append_left from to (flat_map items (take i xs)) (flat_map items (drop i xs)) le)

  module _ (xs : List X) (i : ℕ) (x : X) (s : StartFrom start first items 0 xs) (lt : i < length xs) (e : x ≡ get_or xs i x) where
    -- where a part starts
    pub start_is : start x ≡ length (flat_map items (take i xs))
    start_is = ap start e ∙ (start_at 0 xs i x lt s).0 ∙ (omega arith)

    -- the items of a part among all
    pub item_is : (j : ℕ) (d : A) → j < length (items x) → get_or (flat_map items xs) (start x + j) d ≡ get_or (items x) j d
    item_is j d within =
        ap (λ n. get_or (flat_map items xs) (n + j) d) start_is ∙ get_or-flat_map items xs i j x d lt (subst (λ y. j < length (items y)) e within) ∙ ap (λ y. get_or (items y) j d) (sym e)

    -- a part begins with its first item
    pub first_item : slice_get (items x) 0 ≡ Some (first x)
    first_item = subst (λ y. slice_get (items y) 0 ≡ Some (first y)) (sym e) (start_at 0 xs i x lt s).1

    -- a part has items
    pub has_items : 0 < length (items x)
    has_items = slice_get_within (items x) 0 (first x) first_item

    -- a part's first item among all
    pub first_is : (d : A) → get_or (flat_map items xs) (start x) d ≡ first x
    first_is d =
        let plus : start x ≡ start x + 0 = omega arith in
        ap (λ n. get_or (flat_map items xs) n d) plus ∙ item_is 0 d has_items ∙ get_or_from_slice_get (items x) 0 (first x) d first_item

    -- where a part ends
    pub end_is : length (flat_map items (take (i + 1) xs)) ≡ start x + length (items x)
    end_is = omega (arith, start_is, ap length (joined_more xs i x lt e), length-append (flat_map items (take i xs)) (items x))

    -- a part ends among all
    pub end_within : start x + length (items x) ≤ length (flat_map items xs)
    end_within = omega (arith, end_is, ap length (ap (flat_map items) (sym (take-append-drop (i + 1) xs)) ∙ flat_map-append items (take (i + 1) xs) (drop (i + 1) xs)), length-append (flat_map items (take (i + 1) xs)) (flat_map items (drop (i + 1) xs)))

    -- where the item at a place stands in the part
    pub record IsItemIn (place : ℕ) : Type 0 where
      pub begun : start x ≤ place
      pub in_range : place - start x < length (items x)
      pub item : (d : A) → get_or (items x) (place - start x) d ≡ get_or (flat_map items xs) place d

    pub item_in : (place : ℕ) → length (flat_map items (take i xs)) ≤ place → place < length (flat_map items (take (i + 1) xs)) → IsItemIn place
    item_in place before after =
        let begun : start x ≤ place = omega (arith, start_is) in
        let inside : place - start x < length (items x) = omega (arith, end_is) in
        let plus : place ≡ start x + (place - start x) = omega arith in
        record {
          begun = begun;
          in_range = inside;
          item = λ d. sym (ap (λ n. get_or (flat_map items xs) n d) plus ∙ item_is (place - start x) d inside);
        }

    -- a range, one part further
    pub range_more : (from to : ℕ) → range from to (flat_map items (take (i + 1) xs)) ≡ range from to (flat_map items (take i xs)) ++ range (from - start x) (to - start x) (items x)
    range_more from to = rw (start_is, joined_more xs i x lt e) (range-append from to (flat_map items (take i xs)) (items x))
