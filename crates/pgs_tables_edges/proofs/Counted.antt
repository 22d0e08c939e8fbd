-- What a range costs: the copies of at most three chunks.
use Rattle.std.proofs.Common.{◌≡◌, ℕ, ◌+◌, ◌-◌, ◌*◌, ◌<◌, ◌≤◌, List, length, take, get_or, sym, subst, arith, inl, inr}
use Rattle.std.specs.List.{flat_map}
use Rattle.std.proofs.lemmas.Bool.{cases_lt}
use Rattle.std.proofs.lemmas.List.{take_more}
use Rattle.pgs_tables_edges.specs.Packed.{PackedFrom, last_count}
use Rattle.pgs_tables_edges.proofs.Packed.{packed_pair, last-push}

-- the parts xs from begin to next were put last, as far as they lie in a range; before there was `old` left to copy, and now `left`;
-- the last part has `last` items
pub record IsCounted {X A : Type 0} (items : X → List A) (xs : List X) (begin next from to old left last : ℕ) : Type 0 where
  pub begun : begin ≤ next
  -- the range begins in the first of them
  pub past : begin < next → from ≤ length (flat_map items (take next xs))
  -- each of the first two may have been copied
  pub first : next ≤ begin + 2 → old ≤ left + 1024 * (next - begin)
  -- no later one was, as long as the range goes on
  pub later : begin + 2 ≤ next → length (flat_map items (take next xs)) < to → (old ≤ left + 2048) × (last_count items 1024 (take next xs) ≤ last)
  pub total : old ≤ left + 3072

module _ {X A : Type 0} (items : X → List A) (xs : List X) (begin next from to old left last : ℕ) (counted : IsCounted items xs begin next from to old left last) where
  -- so many may be copied at the next part
  pub counted_left : 3072 ≤ old → length (flat_map items (take next xs)) < to → 1024 ≤ left
  counted_left enough on =
      elim (cases_lt next (begin + 2)) [
        | inl early ↦ omega (arith, counted.first (omega (arith, early)), counted.begun, early, enough)
        | inr late ↦ omega (arith, (counted.later (omega (arith, late)) on).0, enough)
      ]

  module _ (x : X) (within : next < length xs) (is : x ≡ get_or xs next x) (packed : PackedFrom items 1024 xs) (on : length (flat_map items (take next xs)) < to)
      (ends : length (flat_map items (take (next + 1) xs)) ≡ length (flat_map items (take next xs)) + length (items x))
      (inside : from < length (flat_map items (take (begin + 1) xs)))
      (less grown : ℕ) (copied : left ≤ less + 1024)
      (same : from - length (flat_map items (take next xs)) ≡ 0 → length (items x) ≤ to - length (flat_map items (take next xs)) → 1024 < last + length (items x) → less ≡ left)
      (longer : from - length (flat_map items (take next xs)) ≡ 0 → length (items x) ≤ to - length (flat_map items (take next xs)) → length (items x) ≤ grown) where
    last_is_next : last_count items 1024 (take (next + 1) xs) ≡ length (items x)
    last_is_next = rw (take_more xs next x within, ← is) (last-push items 1024 (take next xs) x)

    pair : 1024 < last_count items 1024 (take next xs) + length (items x)
    pair = subst (λ y. 1024 < last_count items 1024 (take next xs) + length (items y)) (sym is) (packed_pair items 1024 xs next x within packed)

    next_past : begin < next + 1 → from ≤ length (flat_map items (take (next + 1) xs))
    next_past h =
        elim (cases_lt begin next) [
          | inl lt ↦ omega (arith, counted.past lt, ends)
          | inr le ↦
              let same_place : next ≡ begin = omega (arith, le, counted.begun) in
              subst (λ n. from ≤ length (flat_map items (take (n + 1) xs))) (sym same_place) (omega (arith, inside))
        ]

    next_later : begin + 2 ≤ next + 1 → length (flat_map items (take (next + 1) xs)) < to → (old ≤ less + 2048) × (last_count items 1024 (take (next + 1) xs) ≤ grown)
    next_later h goes =
        let front : from - length (flat_map items (take next xs)) ≡ 0 = omega (arith, counted.past (omega (arith, h))) in
        let back : length (items x) ≤ to - length (flat_map items (take next xs)) = omega (arith, goes, ends) in
        let all : last_count items 1024 (take (next + 1) xs) ≤ grown = omega (arith, longer front back, last_is_next) in
        elim (cases_lt next (begin + 2)) [
          | inl early ↦ (omega (arith, counted.first (omega (arith, early)), counted.begun, early, h, copied), all)
          | inr late ↦
              let before = counted.later (omega (arith, late)) on in
              (omega (arith, before.0, same front back (omega (arith, pair, before.1))), all)
        ]

    next_total : old ≤ less + 3072
    next_total =
        elim (cases_lt next (begin + 2)) [
          | inl early ↦ omega (arith, counted.first (omega (arith, early)), counted.begun, early, copied)
          | inr late ↦ omega (arith, (counted.later (omega (arith, late)) on).0, copied)
        ]

    -- one part more
    pub counted_more : IsCounted items xs begin (next + 1) from to old less grown
    counted_more = record {
      begun = omega (arith, counted.begun);
      past = next_past;
      first = λ h. omega (arith, counted.first (omega (arith, h)), counted.begun, h, copied);
      later = next_later;
      total = next_total;
    }
