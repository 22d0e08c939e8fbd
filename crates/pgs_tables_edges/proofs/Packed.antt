-- Parts of which none is too large and no two side by side fit into one.
use Rattle.std.proofs.Common.{◌≡◌, ℕ, zero, suc, ◌+◌, ◌-◌, ◌*◌, ◌<◌, ◌≤◌, List, [], ◌∷◌, ◌++◌, length, take, get_or, slice_get, Some, IsSomeAnd, refl, sym, ap, subst, ◌∙◌, arith, inl, inr, length-append}
use Rattle.std.specs.List.{flat_map}
use Rattle.std.proofs.lemmas.Bool.{cases_lt}
use Rattle.std.proofs.lemmas.Option.{slice_get-get_or}
use Rattle.pgs_tables_edges.specs.Packed.{PackedFrom, last_count}

module _ {X A : Type 0} (items : X → List A) where
  -- a part put last
  pub packed_push : (n : ℕ) (xs : List X) (x : X) → PackedFrom items n xs → length (items x) ≤ 1024 → 1024 < last_count items n xs + length (items x) → PackedFrom items n (xs ++ x ∷ [])
  packed_push n [] x p small more = (small, more, tt)
  packed_push n (y ∷ ys) x p small more = (p.0, p.1, packed_push (length (items y)) ys x p.2 small more)

  -- the last part taken off
  pub packed_pop : (n : ℕ) (xs : List X) (x : X) → PackedFrom items n (xs ++ x ∷ []) → PackedFrom items n xs × (1024 < last_count items n xs + length (items x))
  packed_pop n [] x p = (tt, p.1)
  packed_pop n (y ∷ ys) x p = let rest = packed_pop (length (items y)) ys x p.2 in ((p.0, p.1, rest.0), rest.1)

  -- each part is small
  pub packed_small : (n : ℕ) (xs : List X) (i : ℕ) (d : X) → i < length xs → PackedFrom items n xs → length (items (get_or xs i d)) ≤ 1024
  packed_small n [] i d lt p = absurd (omega arith)
  packed_small n (x ∷ xs) zero d lt p = p.0
  packed_small n (x ∷ xs) (suc i) d lt p = packed_small (length (items x)) xs i d (omega arith) p.2

  -- what the last part has, of parts put last
  pub last-push : (n : ℕ) (xs : List X) (x : X) → last_count items n (xs ++ x ∷ []) ≡ length (items x)
  last-push n [] x = refl
  last-push n (y ∷ ys) x = last-push (length (items y)) ys x

  -- a part doesn't fit into the one before it
  pub packed_pair : (n : ℕ) (xs : List X) (i : ℕ) (d : X) → i < length xs → PackedFrom items n xs → 1024 < last_count items n (take i xs) + length (items (get_or xs i d))
  packed_pair n [] i d lt p = absurd (omega arith)
  packed_pair n (x ∷ xs) zero d lt p = p.1
  packed_pair n (x ∷ xs) (suc i) d lt p = packed_pair (length (items x)) xs i d (omega arith) p.2

  -- there are few
  pub packed_few : (n : ℕ) (xs : List X) → PackedFrom items n xs → 1024 * length xs ≤ n + 2 * length (flat_map items xs)
  packed_few n [] p = omega arith
  packed_few n (x ∷ xs) p = omega (arith, p.1, packed_few (length (items x)) xs p.2, length-append (items x) (flat_map items xs))

  last_item : (xs : List X) (y x : X) → slice_get (y ∷ xs) (length xs) ≡ Some x → last_count items (length (items y)) xs ≡ length (items x)
  last_item [] y x e = let same : y ≡ x = cc in ap (λ z. length (items z)) same
  last_item (z ∷ zs) y x e = last_item zs z x e

  -- the last part of all
  pub last_is : (n : ℕ) (xs : List X) (x : X) → slice_get xs (length xs - 1) ≡ Some x → last_count items n xs ≡ length (items x)
  last_is n [] x e = cc
  last_is n (y ∷ ys) x e = let same : suc (length ys) - 1 ≡ length ys = omega arith in last_item ys y x (rw same at e)

  -- the last part replaced by one that isn't smaller
  pub packed_joined : (n : ℕ) (xs : List X) (x y : X) → PackedFrom items n (xs ++ x ∷ []) → length (items x) ≤ length (items y) → length (items y) ≤ 1024 → PackedFrom items n (xs ++ y ∷ [])
  packed_joined n xs x y p le small = let popped = packed_pop n xs x p in packed_push n xs y popped.0 small (omega (arith, popped.1, le))

  last_at : (xs : List X) (x : X) → slice_get (xs ++ x ∷ []) (length xs) ≡ Some x
  last_at [] x = refl
  last_at (y ∷ ys) x = last_at ys x

  -- where the last part has room
  pub room_there : (xs : List X) (x : X) (more : ℕ) → IsSomeAnd (slice_get (xs ++ x ∷ []) (length (xs ++ x ∷ []) - 1)) (λ last. length (items last) + more ≤ 1024) → length (items x) + more ≤ 1024
  room_there xs x more room =
      let end : length (xs ++ x ∷ []) - 1 ≡ length xs = omega (arith, length-append xs (x ∷ [])) in
      subst (λ o. IsSomeAnd o (λ last. length (items last) + more ≤ 1024)) (ap (slice_get (xs ++ x ∷ [])) end ∙ last_at xs x) room

  -- where it has none
  pub no_room : (xs : List X) (more : ℕ) → (IsSomeAnd (slice_get xs (length xs - 1)) (λ last. length (items last) + more ≤ 1024) → ⊥) → 0 < more → 1024 < last_count items 1024 xs + more
  no_room [] more none some = omega arith
  no_room (y ∷ ys) more none some =
      let x = get_or (y ∷ ys) (length (y ∷ ys) - 1) y in
      let last : slice_get (y ∷ ys) (length (y ∷ ys) - 1) ≡ Some x = slice_get-get_or (y ∷ ys) (length (y ∷ ys) - 1) y (omega arith) in
      elim (cases_lt 1024 (length (items x) + more)) [
        | inl above ↦ omega (arith, above, last_is 1024 (y ∷ ys) x last)
        | inr room ↦ absurd (none (subst (λ o. IsSomeAnd o (λ last. length (items last) + more ≤ 1024)) (sym last) room))
      ]

  -- where the last part has room, as a number
  pub roomy_last : (xs : List X) (more : ℕ) → IsSomeAnd (slice_get xs (length xs - 1)) (λ last. length (items last) + more ≤ 1024) → last_count items 1024 xs + more ≤ 1024
  roomy_last [] more room = absurd room
  roomy_last (y ∷ ys) more room =
      let x = get_or (y ∷ ys) (length (y ∷ ys) - 1) y in
      let last : slice_get (y ∷ ys) (length (y ∷ ys) - 1) ≡ Some x = slice_get-get_or (y ∷ ys) (length (y ∷ ys) - 1) y (omega arith) in
      omega (arith, last_is 1024 (y ∷ ys) x last, subst (λ o. IsSomeAnd o (λ last. length (items last) + more ≤ 1024)) last room)
