-- The least change after so many commits is that of the least such element.
use Rattle.std.proofs.Common.{◌≡◌, ℕ, zero, suc, ◌<◌, ◌≤◌, ◌⊎◌, inl, inr, ⊎_elim, Bool, true, false, true≢false, List, [], ◌∷◌, length, Option, Some, None, refl, sym, ap, subst, ◌∙◌, arith, Ordering, Less, Equal, Greater}
use Rattle.std.specs.Prelude.{if◌then◌else◌, nat_lt, Contains, slice_index_or}
use Rattle.std.specs.Ordering.{is_gt, ordering_reverse}
use Rattle.std.proofs.lemmas.Bool.{ltb-true, ltb-false}
use Rattle.pgs_base.specs.declared.element.Elem.{Elem}
use Rattle.pgs_base.specs.Order.{elem_cmp}
use Rattle.pgs_base.specs.OrderLaws.{elem_cmp_total, exact_elem}
use Rattle.pgs_sessions_machine.specs.Machine.{if_after, lesser, least_of, least_after}

-- ---- members of a list

module _ {X : Type 0} where
  member_cases : (x : X) (xs : List X) (y : X) → Contains (x ∷ xs) y → (x ≡ y) ⊎ Contains xs y
  member_cases x xs y h = by h.0 h.1 h.2
    where
      by : (k : ℕ) → k < length (x ∷ xs) → slice_index_or (x ∷ xs) k y ≡ y → (x ≡ y) ⊎ Contains xs y
      by zero within e = inl e
      by (suc k) within e = inr (k, omega arith, e)

  member_here : (x : X) (xs : List X) → Contains (x ∷ xs) x
  member_here x xs = (0, omega arith, refl)

  member_later : (x : X) (xs : List X) (y : X) → Contains xs y → Contains (x ∷ xs) y
  member_later x xs y h = let within : h.0 < length xs = h.1 in (suc h.0, omega arith, h.2)

  no_member : (y : X) → Contains [] y → ⊥
  no_member y h = let within : h.0 < 0 = h.1 in absurd (omega arith)

-- ---- the least one that was changed

module _ (last : Elem → Option ℕ) (began : ℕ) where
  abbrev pub IsLate : Elem → Type 0
  IsLate elem = (commit : ℕ) × (last elem ≡ Some commit) × (began < commit)

  pub record IsFound (xs : List Elem) (found : Elem × ℕ) : Type 0 where
    pub member : Contains xs found.0
    pub number : last found.0 ≡ Some found.1
    pub late : began < found.1
    pub first : (y : Elem) → Contains xs y → IsLate y → (y ≡ found.0) ⊎ (elem_cmp found.0 y ≡ Less)

  abbrev pub Tells : List Elem → Option (Elem × ℕ) → Type 0
  Tells xs None = (y : Elem) → Contains xs y → IsLate y → ⊥
  Tells xs (Some found) = IsFound xs found

  -- an element more, which wasn't changed later
  extended : (x : Elem) (xs : List Elem) → (IsLate x → ⊥) → (rest : Option (Elem × ℕ)) → Tells xs rest → Tells (x ∷ xs) rest
  extended x xs kept None told = λ y there late.
      ⊎_elim (λ (same : x ≡ y). kept (subst IsLate (sym same) late)) (λ (later : Contains xs y). told y later late) (member_cases x xs y there)
  extended x xs kept (Some found) told = record {
    member = member_later x xs found.0 told.member;
    number = told.number;
    late = told.late;
    first = λ y there late.
        ⊎_elim (λ (same : x ≡ y). absurd (kept (subst IsLate (sym same) late))) (λ (later : Contains xs y). told.first y later late) (member_cases x xs y there);
  }

  -- the first element that is left, or one after it
  alone : (x : Elem) (xs : List Elem) (m : ℕ) → last x ≡ Some m → began < m → Tells xs None → IsFound (x ∷ xs) (x, m)
  alone x xs m is late told = record {
    member = member_here x xs;
    number = is;
    late = late;
    first = λ y there late_y. ⊎_elim (λ (same : x ≡ y). inl (sym same)) (λ (later : Contains xs y). absurd (told y later late_y)) (member_cases x xs y there);
  }

  after_it : (x y z : Elem) → is_gt (elem_cmp x y) ≡ false → (z ≡ y) ⊎ (elem_cmp y z ≡ Less) → (z ≡ x) ⊎ (elem_cmp x z ≡ Less)
  after_it x y z not_greater h = by (elem_cmp x y) refl
    where
      by : (o : Ordering) → elem_cmp x y ≡ o → (z ≡ x) ⊎ (elem_cmp x z ≡ Less)
      by Less e = inr (⊎_elim (λ (same : z ≡ y). ap (elem_cmp x) same ∙ e) (λ (less : elem_cmp y z ≡ Less). elem_cmp_total.trans x y z e less) h)
      by Equal e =
          let same : x ≡ y = exact_elem x y e in
          ⊎_elim (λ (equal : z ≡ y). inl (equal ∙ sym same)) (λ (less : elem_cmp y z ≡ Less). inr (ap (λ (w : Elem). elem_cmp w z) same ∙ less)) h
      by Greater e = absurd (true≢false (ap is_gt (sym e) ∙ not_greater))

  greater : (o : Ordering) → is_gt o ≡ true → o ≡ Greater
  greater Less h = absurd (true≢false (sym h))
  greater Equal h = absurd (true≢false (sym h))
  greater Greater h = refl

  beside : (x : Elem) (xs : List Elem) (m : ℕ) (other : Elem × ℕ) → last x ≡ Some m → began < m → IsFound xs other → (b : Bool) → is_gt (elem_cmp x other.0) ≡ b →
      IsFound (x ∷ xs) (if b then other else (x, m))
  beside x xs m other is late told true gt = record {
    member = member_later x xs other.0 told.member;
    number = told.number;
    late = told.late;
    first = λ y there late_y.
        ⊎_elim (λ (same : x ≡ y). inr (elem_cmp_total.antisymm other.0 y ∙ ap ordering_reverse (ap (λ (w : Elem). elem_cmp w other.0) (sym same) ∙ greater _ gt)))
        (λ (later : Contains xs y). told.first y later late_y) (member_cases x xs y there);
  }
  beside x xs m other is late told false gt = record {
    member = member_here x xs;
    number = is;
    late = late;
    first = λ y there late_y.
        ⊎_elim (λ (same : x ≡ y). inl (sym same)) (λ (later : Contains xs y). after_it x other.0 y gt (told.first y later late_y)) (member_cases x xs y there);
  }

  with_one : (x : Elem) (xs : List Elem) (m : ℕ) → last x ≡ Some m → began < m → (rest : Option (Elem × ℕ)) → Tells xs rest → IsFound (x ∷ xs) (lesser (x, m) rest)
  with_one x xs m is late None told = alone x xs m is late told
  with_one x xs m is late (Some other) told = beside x xs m other is late told (is_gt (elem_cmp x other.0)) refl

  one_more : (x : Elem) (xs : List Elem) (rest : Option (Elem × ℕ)) → Tells xs rest → (l : Option ℕ) → last x ≡ l → Tells (x ∷ xs) (least_of x (if_after began l) rest)
  one_more x xs rest told None is = extended x xs (λ late. absurd (no_some late.0 (sym is ∙ late.1))) rest told
    where
      no_some : (n : ℕ) → None ≡ Some n → ⊥
      no_some n e = cc
  one_more x xs rest told (Some m) is = by (nat_lt began m) refl
    where
      by : (b : Bool) → nat_lt began m ≡ b → Tells (x ∷ xs) (least_of x (if b then Some m else None) rest)
      by true late = with_one x xs m is (ltb-true began m late) rest told
      by false early = extended x xs (λ late. not_late late.0 (sym is ∙ late.1) late.2) rest told
        where
          not_late : (n : ℕ) → Some m ≡ Some n → began < n → ⊥
          not_late n e late = let same : m ≡ n = cc in let above : m ≤ began = ltb-false began m early in omega arith

  pub tells : (xs : List Elem) → Tells xs (least_after last began xs)
  tells [] = λ y there late. no_member y there
  tells (x ∷ xs) = one_more x xs (least_after last began xs) (tells xs) (last x) refl

  -- two least ones are one
  pub found_once : (xs : List Elem) (a b : Elem × ℕ) → IsFound xs a → IsFound xs b → a ≡ b
  found_once xs a b fa fb = λ i. (same i, numbers i)
    where
      not_both : elem_cmp a.0 b.0 ≡ Less → elem_cmp b.0 a.0 ≡ Less → ⊥
      not_both h k = let turned : Less ≡ Greater = sym h ∙ elem_cmp_total.antisymm a.0 b.0 ∙ ap ordering_reverse k in cc

      same : a.0 ≡ b.0
      same = ⊎_elim (λ (e : b.0 ≡ a.0). sym e)
          (λ (h : elem_cmp a.0 b.0 ≡ Less). ⊎_elim (λ (e : a.0 ≡ b.0). e) (λ (k : elem_cmp b.0 a.0 ≡ Less). absurd (not_both h k)) (fb.first a.0 fa.member (a.1, fa.number, fa.late)))
          (fa.first b.0 fb.member (b.1, fb.number, fb.late))

      numbers : a.1 ≡ b.1
      numbers = let e : Some a.1 ≡ Some b.1 = sym fa.number ∙ ap last same ∙ fb.number in cc
