-- Where a number stands among the items of parts, if they ascend.
use Rattle.std.proofs.Common.{◌≡◌, ℕ, ◌+◌, ◌-◌, ◌<◌, ◌≤◌, List, [], ◌∷◌, length, get_or, take, Ok, Err, ap, ◌∙◌, inl, inr, arith}
use Rattle.pgs_base.specs.Graph.{edge_cmp}
use Rattle.std.specs.List.{flat_map}
use Rattle.std.specs.List.Sorted.{IsStrictlySortedBy, IsBinarySearchResult}
use Rattle.std.proofs.lemmas.Bool.{cases_lt}
use Rattle.pgs_base.specs.declared.element.EdgeId.{EdgeId}
use Rattle.pgs_base.specs.Places.{IsKeyAt}
use Rattle.pgs_tables_edges.specs.Starts.{StartFrom}
use Rattle.pgs_tables_edges.proofs.Joined.{start_is, item_is, first_is, end_is, end_within, has_items}
use Rattle.pgs_tables_edges.specs.Numbers.{numbered, number_at, IsBetween}
use Rattle.pgs_tables_edges.proofs.Searched.{numbers_same, ascends, ascends_from, searched_found, searched_missed, key_here}

pub some_parts : {X A : Type 0} (items : X → List A) (xs : List X) → 0 < length (flat_map items xs) → 0 < length xs
some_parts items [] lt = lt
some_parts items (x ∷ xs) lt = omega arith

module _ {X : Type 0} (start : X → ℕ) (first : X → EdgeId) (items : X → List EdgeId) (id : EdgeId) (xs : List X) (up : IsStrictlySortedBy edge_cmp (flat_map items xs)) (i : ℕ) (x : X) (s : StartFrom start first items 0 xs) (lt : i < length xs) (e : x ≡ get_or xs i x) where
  -- the numbers before a part that begins with the number or one below it
  pub below_part : (first x).0 ≤ id.0 → (k : ℕ) → k < length (flat_map items (take i xs)) → number_at (flat_map items xs) k < id.0
  below_part le k before =
      let begins = start_is start first items xs i x s lt e in
      let some = has_items start first items xs i x s lt e in
      let within = end_within start first items xs i x s lt e in
      let rises = ascends (flat_map items xs) k (start x) up (omega (arith, begins)) (omega (arith, some, within)) in
      omega (arith, rises, numbers_same (first_is start first items xs i x s lt e (numbered 0)))

  -- the numbers from a part on that begins above the number
  pub above_part : id.0 < (first x).0 → (k : ℕ) → length (flat_map items (take i xs)) ≤ k → k < length (flat_map items xs) → id.0 < number_at (flat_map items xs) k
  above_part less k after high =
      ascends_from (flat_map items xs) (start x) k id.0 up (omega (arith, start_is start first items xs i x s lt e)) high (omega (arith, numbers_same (first_is start first items xs i x s lt e (numbered 0))))

  -- a number of the part among all
  number_in : (j : ℕ) → j < length (items x) → number_at (flat_map items xs) (start x + j) ≡ number_at (items x) j
  number_in j high = numbers_same (item_is start first items xs i x s lt e j (numbered 0) high)

  rises_in : (j k : ℕ) → j ≤ k → k < length (items x) → number_at (items x) j ≤ number_at (items x) k
  rises_in j k le high =
      elim (cases_lt j k) [
        | inl earlier ↦ omega (
          arith,
          ascends (flat_map items xs) (start x + j) (start x + k) up (omega arith) (omega (arith, end_within start first items xs i x s lt e)),
          number_in j (omega arith),
          number_in k high,
        )
        | inr same ↦ let e : j ≡ k = omega arith in rw e (omega arith)
      ]

  -- a number found in the part
  pub found_in : (j : ℕ) → IsBinarySearchResult (λ y. edge_cmp y id) (items x) (Ok j) → (start x + j < length (flat_map items xs)) × (number_at (flat_map items xs) (start x + j) ≡ id.0) × IsKeyAt edge_cmp id (flat_map items xs) (start x + j)
  found_in j h =
      let found = searched_found (items x) id j h in
      let within : start x + j < length (flat_map items xs) = omega (arith, found.0, end_within start first items xs i x s lt e) in
      let here = number_in j found.0 ∙ found.1 in
      (within, here, key_here id (flat_map items xs) (start x + j) up within here)

  -- a number not found in the part, where those before it are below it and those after it are above
  pub parted_in :
      (j : ℕ) → IsBinarySearchResult (λ y. edge_cmp y id) (items x) (Err j) → ((k : ℕ) → k < length (flat_map items (take i xs)) → number_at (flat_map items xs) k < id.0) → ((k : ℕ) → length (flat_map items (take (i + 1) xs)) ≤ k → k < length (flat_map items xs) → id.0 < number_at (flat_map items xs) k) → IsBetween id (flat_map items xs) (start x + j)
  parted_in j h before after =
      let missed = searched_missed (items x) id j h rises_in in
      let begins = start_is start first items xs i x s lt e in
      let ends = end_is start first items xs i x s lt e in
      record {
        in_range = omega (arith, missed.0, end_within start first items xs i x s lt e);
        below = below begins missed.1;
        above = above ends missed.2;
      }
    where
      there : (k : ℕ) → start x ≤ k → k < start x + length (items x) → number_at (flat_map items xs) k ≡ number_at (items x) (k - start x)
      there k low high =
          let plus : k ≡ start x + (k - start x) = omega arith in
          ap (number_at (flat_map items xs)) plus ∙ number_in (k - start x) (omega arith)

      bound : j ≤ length (items x)
      bound = (searched_missed (items x) id j h rises_in).0

      below : start x ≡ length (flat_map items (take i xs)) → ((k : ℕ) → k < j → number_at (items x) k < id.0) → (k : ℕ) → k < start x + j → number_at (flat_map items xs) k < id.0
      below begins inside k low =
          elim (cases_lt k (start x)) [
            | inl earlier ↦ before k (omega (arith, begins))
            | inr here ↦ rw (there k here (omega (arith, bound))) (inside (k - start x) (omega arith))
          ]

      above : length (flat_map items (take (i + 1) xs)) ≡ start x + length (items x) → ((k : ℕ) → j ≤ k → k < length (items x) → id.0 < number_at (items x) k) → (k : ℕ) → start x + j ≤ k → k < length (flat_map items xs) → id.0 < number_at (flat_map items xs) k
      above ends inside k low high =
          elim (cases_lt k (start x + length (items x))) [
            | inl here ↦ rw (there k (omega arith) here) (inside (k - start x) (omega arith) (omega arith))
            | inr later ↦ after k (omega (arith, ends)) high
          ]
