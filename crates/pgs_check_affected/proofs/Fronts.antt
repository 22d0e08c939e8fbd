-- The elements of a change that a key may see, as a loop over all gathers them, against all.
use Rattle.std.proofs.Common.{◌≡◌, ℕ, zero, suc, ◌+◌, ◌*◌, ◌<◌, ◌≤◌, Bool, true, false, ◌&&◌, not, cond, List, [], ◌∷◌, ◌++◌, map, filter, length, take, get_or, refl, sym, ◌∙◌, ap, arith}
use Rattle.std.proofs.Math.Nat.{mul-le-mul_right}
use Rattle.std.proofs.lemmas.Bool.{and_parts, and_from}
use Rattle.std.proofs.lemmas.List.{get_or-map}
use Rattle.pgs_base.specs.declared.element.Elem.{Elem}
use Rattle.pgs_base.specs.Graph.{Graph}
use Rattle.pgs_syntax.specs.declared.key.Key.{Key}
use Rattle.pgs_syntax.specs.declared.resolved.Resolved.{Resolved}
use Rattle.pgs_syntax.specs.Matches.{same_elem}
use Rattle.pgs_syntax.proofs.Halves.{any_filter}
use Rattle.pgs_check_affected.specs.declared.known.Known.{Known}
use Rattle.pgs_check_affected.specs.Changes.{known_in}
use Rattle.pgs_check_affected.specs.Found.{found_by, found}
use Rattle.pgs_check_affected.specs.Local.{is_one_of}
use Rattle.pgs_check_affected.specs.Touched.{AreSparseInBoth}
use Rattle.pgs_check_affected.specs.Unseen.{is_left_unseen, seen_elems}
use Rattle.pgs_check_affected.proofs.Loops.{flat_append, flat_one, front_more}
use Rattle.pgs_check_affected.proofs.Touching.{any_implied, any_of, itself}

-- ---- what is kept of a list

append_nil : (xs : List Elem) → xs ++ [] ≡ xs
append_nil [] = refl
append_nil (x ∷ xs) = ap (λ rest. x ∷ rest) (append_nil xs)

module _ (keep : Elem → Bool) where
  filter_append : (xs ys : List Elem) → filter keep (xs ++ ys) ≡ filter keep xs ++ filter keep ys
  filter_append [] ys = refl
  filter_append (x ∷ xs) ys = by (keep x) (filter_append xs ys)
    where
      by : (b : Bool) → filter keep (xs ++ ys) ≡ filter keep xs ++ filter keep ys →
          cond b (x ∷ filter keep (xs ++ ys)) (filter keep (xs ++ ys)) ≡ cond b (x ∷ filter keep xs) (filter keep xs) ++ filter keep ys
      by true rest = ap (λ zs. x ∷ zs) rest
      by false rest = rest

  pub kept_more : (xs : List Elem) (i : ℕ) (x : Elem) → i < length xs → get_or xs i x ≡ x → keep x ≡ true → filter keep (take (i + 1) xs) ≡ filter keep (take i xs) ++ x ∷ []
  kept_more xs i x below at kept =
      ap (filter keep) (front_more xs i x below at) ∙ filter_append (take i xs) (x ∷ []) ∙ ap (λ b. filter keep (take i xs) ++ cond b (x ∷ []) []) kept

  pub kept_same : (xs : List Elem) (i : ℕ) (x : Elem) → i < length xs → get_or xs i x ≡ x → keep x ≡ false → filter keep (take (i + 1) xs) ≡ filter keep (take i xs)
  kept_same xs i x below at left =
      ap (filter keep) (front_more xs i x below at) ∙ filter_append (take i xs) (x ∷ []) ∙ ap (λ b. filter keep (take i xs) ++ cond b (x ∷ []) []) left
      ∙ append_nil (filter keep (take i xs))

  abbrev one_if : Bool → ℕ
  one_if true = 1
  one_if false = 0

  counted : (b : Bool) (x : Elem) (xs : List Elem) → length (cond b (x ∷ xs) xs) ≡ one_if b + length xs
  counted true x xs = let size : length (x ∷ xs) ≡ 1 + length xs = omega arith in size
  counted false x xs = let size : length xs ≡ 0 + length xs = omega arith in size

  pub kept_fewer : (xs : List Elem) (i : ℕ) (x : Elem) → i < length xs → get_or xs i x ≡ x → keep x ≡ true → length (filter keep (take i xs)) < length (filter keep xs)
  kept_fewer [] i x below at kept = absurd (omega (arith, below))
  kept_fewer (y ∷ ys) zero x below at kept =
      let here : keep y ≡ true = ap keep at ∙ kept in
      let size = counted (keep y) y (filter keep ys) in
      let one : one_if (keep y) ≡ 1 = ap one_if here in
      omega (arith, size, one)
  kept_fewer (y ∷ ys) (suc i) x below at kept =
      let rest = kept_fewer ys i x (omega (arith, below)) at kept in
      let size = counted (keep y) y (filter keep ys) in
      let front = counted (keep y) y (filter keep (take i ys)) in
      omega (arith, rest, size, front)

  pub kept_most : (xs : List Elem) → length (filter keep xs) ≤ length xs
  kept_most [] = omega arith
  kept_most (x ∷ xs) = by (keep x) (kept_most xs)
    where
      by : (b : Bool) → length (filter keep xs) ≤ length xs → length (cond b (x ∷ filter keep xs) (filter keep xs)) ≤ length (x ∷ xs)
      by true rest = omega (arith, rest)
      by false rest = omega (arith, rest)

  pub kept_own : (xs : List Elem) (x : Elem) → is_one_of (filter keep xs) x ≡ true → is_one_of xs x ≡ true
  kept_own xs x some =
      any_implied (λ y. keep y && same_elem x y) (same_elem x) (λ y both. (and_parts (keep y) _ both).1) xs (sym (any_filter (same_elem x) keep xs) ∙ some)

  pub kept_has : (xs : List Elem) (x : Elem) → is_one_of xs x ≡ true → keep x ≡ true → is_one_of (filter keep xs) x ≡ true
  kept_has xs x own kept = any_filter (same_elem x) keep xs ∙ any_of (λ y. keep y && same_elem x y) x xs own (and_from _ _ kept (itself x))

-- ---- one turn of the loop

-- the element of what is known at a place
pub elem_at : (known : List Known) (i : ℕ) (one : Known) → i < length known → get_or known i one ≡ one → get_or (map (λ (k : Known). k.elem) known) i one.elem ≡ one.elem
elem_at known i one below at = get_or-map (λ (k : Known). k.elem) known i one one.elem below ∙ ap (λ (k : Known). k.elem) at

module _ (resolved : Resolved) (g h : Graph) (key : Key) (one : Known) (is : one ≡ known_in g h one.elem) where
  abbrev pub keeps : Elem → Bool
  keeps elem = not (is_left_unseen resolved key (known_in g h elem))

  pub is_kept : (b : Bool) → b ≡ is_left_unseen resolved key one → keeps one.elem ≡ not b
  is_kept b test = ap (λ (k : Known). not (is_left_unseen resolved key k)) (sym is) ∙ ap not (sym test)

-- one element more of those found
pub found_more : (resolved : Resolved) (g h : Graph) (scope descriptor : Bool) (key : Key) (xs : List Elem) (x : Elem) →
    found resolved g h scope descriptor key (xs ++ x ∷ []) ≡ found resolved g h scope descriptor key xs ++ found_by resolved g h x scope descriptor key
found_more resolved g h scope descriptor key xs x =
    flat_append (λ elem. found_by resolved g h elem scope descriptor key) xs (x ∷ [])
    ∙ ap (λ ys. found resolved g h scope descriptor key xs ++ ys) (flat_one (λ elem. found_by resolved g h elem scope descriptor key) x)

-- ---- against all

module _ (resolved : Resolved) (g h : Graph) (key : Key) (elems : List Elem) where
  abbrev pub keep : Elem → Bool
  keep elem = not (is_left_unseen resolved key (known_in g h elem))

  pub seen_sparse : (edges most : ℕ) → AreSparseInBoth g h edges elems most → AreSparseInBoth g h edges (seen_elems resolved g h key elems) most
  seen_sparse edges most sparse elem own = sparse elem (kept_own keep elems elem own)

  pub seen_own : (elem : Elem) → is_one_of (seen_elems resolved g h key elems) elem ≡ true → is_one_of elems elem ≡ true
  seen_own elem own = kept_own keep elems elem own

  pub seen_size : length (seen_elems resolved g h key elems) ≤ length elems
  seen_size = kept_most keep elems

  pub seen_less : (power start now : ℕ) → now ≤ start + 1280 * length (seen_elems resolved g h key elems) * power → now ≤ start + 1280 * length elems * power
  seen_less power start now cost =
      let less : length (seen_elems resolved g h key elems) * power ≤ length elems * power = mul-le-mul_right power (kept_most keep elems) in
      turn (length (seen_elems resolved g h key elems)) (length elems) cost less
    where
      turn : (few many : ℕ) → now ≤ start + 1280 * few * power → few * power ≤ many * power → now ≤ start + 1280 * many * power
      turn few many a b = omega (arith, a, b)
