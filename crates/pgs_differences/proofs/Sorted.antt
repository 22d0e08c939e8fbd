-- Items in order: what is among them, and that none of the later goes before one of the first.
use Rattle.std.proofs.Common.{◌≡◌, ℕ, zero, suc, Bool, true, false, cond, ◌⊎◌, inl, inr, List, [], ◌∷◌, take, filter, fold, refl, sym, ◌∙◌, subst}
use Rattle.std.specs.Bool.{⊤}
use Rattle.std.specs.List.{Contains}
use Rattle.pgs_differences.specs.Nearest.{put, in_order}
use Rattle.pgs_differences.proofs.Among.{among_none, first, later, either}

-- a test that orders items strictly
pub record Orders {X : Type 0} (before : X → X → Bool) : Type 0 where
  pub apart : (x y : X) → before x y ≡ true → before y x ≡ false
  pub along : (x y z : X) → before x y ≡ true → before y z ≡ true → before x z ≡ true

module _ {X : Type 0} (before : X → X → Bool) (orders : Orders before) where
  -- no later one goes before an earlier one
  abbrev pub Ordered : List X → Type 0
  Ordered [] = ⊤
  Ordered (y ∷ ys) = ((z : X) → Contains ys z → before z y ≡ false) × Ordered ys

  no_sooner : (x y z : X) → before x y ≡ true → before z y ≡ false → before z x ≡ false
  no_sooner x y z h not_sooner = by (before z x) refl
    where
      by : (b : Bool) → before z x ≡ b → before z x ≡ false
      by true e = absurd (let whole = orders.along z x y e h in let no : true ≡ false = sym whole ∙ not_sooner in cc)
      by false e = e

  -- ---- what is among items with one put among them

  put_has_it : (b : Bool) (x y z : X) (ys : List X) → Contains (x ∷ y ∷ ys) z → (Contains (x ∷ ys) z → Contains (put before ys x) z) →
      Contains (cond b (x ∷ y ∷ ys) (y ∷ put before ys x)) z
  put_has_it true x y z ys h rest = h
  put_has_it false x y z ys h rest =
      elim (either x z (y ∷ ys) h) [
        | inl same ↦ later y z (put before ys x) (rest (subst (λ w. Contains (w ∷ ys) z) (sym same) (first z ys)))
        | inr among ↦ elim (either y z ys among) [
          | inl same ↦ subst (λ w. Contains (w ∷ put before ys x) z) (sym same) (first z (put before ys x))
          | inr below ↦ later y z (put before ys x) (rest (later x z ys below))
        ]
      ]

  pub put_has : (xs : List X) (x z : X) → Contains (x ∷ xs) z → Contains (put before xs x) z
  put_has [] x z h = h
  put_has (y ∷ ys) x z h = put_has_it (before x y) x y z ys h (put_has ys x z)

  put_from_it : (b : Bool) (x y z : X) (ys : List X) → Contains (cond b (x ∷ y ∷ ys) (y ∷ put before ys x)) z →
      (Contains (put before ys x) z → Contains (x ∷ ys) z) → Contains (x ∷ y ∷ ys) z
  put_from_it true x y z ys h rest = h
  put_from_it false x y z ys h rest =
      elim (either y z (put before ys x) h) [
        | inl same ↦ later x z (y ∷ ys) (subst (λ w. Contains (w ∷ ys) z) (sym same) (first z ys))
        | inr among ↦ elim (either x z ys (rest among)) [
          | inl same ↦ subst (λ w. Contains (w ∷ y ∷ ys) z) (sym same) (first z (y ∷ ys))
          | inr below ↦ later x z (y ∷ ys) (later y z ys below)
        ]
      ]

  pub put_from : (xs : List X) (x z : X) → Contains (put before xs x) z → Contains (x ∷ xs) z
  put_from [] x z h = h
  put_from (y ∷ ys) x z h = put_from_it (before x y) x y z ys h (put_from ys x z)

  all_from : (kept xs : List X) (z : X) → Contains (fold (put before) kept xs) z → Contains kept z ⊎ Contains xs z
  all_from kept [] z h = inl h
  all_from kept (x ∷ xs) z h =
      elim (all_from (put before kept x) xs z h) [
        | inl among ↦ elim (either x z kept (put_from kept x z among)) [
          | inl same ↦ inr (subst (λ w. Contains (w ∷ xs) z) (sym same) (first z xs))
          | inr below ↦ inl below
        ]
        | inr below ↦ inr (later x z xs below)
      ]

  all_has : (kept xs : List X) (z : X) → Contains kept z ⊎ Contains xs z → Contains (fold (put before) kept xs) z
  all_has kept [] z (inl among) = among
  all_has kept [] z (inr none) = among_none z none
  all_has kept (x ∷ xs) z (inl among) = all_has (put before kept x) xs z (inl (put_has kept x z (later x z kept among)))
  all_has kept (x ∷ xs) z (inr among) =
      elim (either x z xs among) [
        | inl same ↦ all_has (put before kept x) xs z (inl (put_has kept x z (subst (λ w. Contains (w ∷ kept) z) (sym same) (first z kept))))
        | inr below ↦ all_has (put before kept x) xs z (inr below)
      ]

  pub in_order_from : (xs : List X) (z : X) → Contains (in_order before xs) z → Contains xs z
  in_order_from xs z h = elim (all_from [] xs z h) [ inl none ↦ among_none z none | inr among ↦ among ]

  pub in_order_has : (xs : List X) (z : X) → Contains xs z → Contains (in_order before xs) z
  in_order_has xs z h = all_has [] xs z (inr h)

  -- ---- they are in order

  put_orders_it : (b : Bool) (x y : X) (ys : List X) → before x y ≡ b → Ordered (y ∷ ys) → Ordered (put before ys x) →
      Ordered (cond b (x ∷ y ∷ ys) (y ∷ put before ys x))
  put_orders_it true x y ys e h rest = (
    λ z among. elim (either y z ys among) [
      | inl same ↦ subst (λ w. before w x ≡ false) same (orders.apart x y e)
      | inr below ↦ no_sooner x y z e (h.0 z below)
    ],
    h,
  )
  put_orders_it false x y ys e h rest = (
    λ z among. elim (either x z ys (put_from ys x z among)) [
      | inl same ↦ subst (λ w. before w y ≡ false) same e
      | inr below ↦ h.0 z below
    ],
    rest,
  )

  put_orders : (xs : List X) (x : X) → Ordered xs → Ordered (put before xs x)
  put_orders [] x h = (λ z none. among_none z none, tt)
  put_orders (y ∷ ys) x h = put_orders_it (before x y) x y ys refl h (put_orders ys x h.1)

  all_ordered : (kept xs : List X) → Ordered kept → Ordered (fold (put before) kept xs)
  all_ordered kept [] h = h
  all_ordered kept (x ∷ xs) h = all_ordered (put before kept x) xs (put_orders kept x h)

  pub in_order_ordered : (xs : List X) → Ordered (in_order before xs)
  in_order_ordered xs = all_ordered [] xs tt

  -- ---- of the first of them

  take_from : (n : ℕ) (xs : List X) (z : X) → Contains (take n xs) z → Contains xs z
  take_from zero xs z h = among_none z h
  take_from (suc n) [] z h = among_none z h
  take_from (suc n) (x ∷ xs) z h =
      elim (either x z (take n xs) h) [
        | inl same ↦ subst (λ w. Contains (w ∷ xs) z) (sym same) (first z xs)
        | inr below ↦ later x z xs (take_from n xs z below)
      ]

  front_first : (n : ℕ) (xs : List X) (t z : X) → Ordered xs → Contains (take n xs) t → Contains xs z →
      Contains (take n xs) z ⊎ (before z t ≡ false)
  front_first zero xs t z h front among = among_none t front
  front_first (suc n) [] t z h front among = among_none t front
  front_first (suc n) (x ∷ xs) t z h front among =
      elim (either x z xs among) [
        | inl same ↦ inl (subst (λ w. Contains (w ∷ take n xs) z) (sym same) (first z (take n xs)))
        | inr below ↦ elim (either x t (take n xs) front) [
          | inl same ↦ inr (subst (λ w. before z w ≡ false) same (h.0 z below))
          | inr front_below ↦ elim (front_first n xs t z h.1 front_below below) [
            | inl kept ↦ inl (later x z (take n xs) kept)
            | inr sooner ↦ inr sooner
          ]
        ]
      ]

  -- one of the first of items in order is among the items, and none that isn't of the first goes before it
  pub of_first : (n : ℕ) (xs : List X) (t : X) → Contains (take n (in_order before xs)) t → Contains xs t
  of_first n xs t h = in_order_from xs t (take_from n (in_order before xs) t h)

  pub none_before : (n : ℕ) (xs : List X) (t z : X) → Contains (take n (in_order before xs)) t → Contains xs z →
      Contains (take n (in_order before xs)) z ⊎ (before z t ≡ false)
  none_before n xs t z front among = front_first n (in_order before xs) t z (in_order_ordered xs) front (in_order_has xs z among)

-- ---- what is among items that pass a test

module _ {X : Type 0} (test : X → Bool) where
  pub kept_has : (xs : List X) (z : X) → Contains xs z → test z ≡ true → Contains (filter test xs) z
  kept_has [] z h passes = among_none z h
  kept_has (x ∷ xs) z h passes =
      elim (either x z xs h) [
        | inl same ↦ here (test x) (subst (λ w. test w ≡ true) (sym same) passes) same
        | inr below ↦ beside (test x) (kept_has xs z below passes)
      ]
    where
      here : (b : Bool) → b ≡ true → x ≡ z → Contains (cond b (x ∷ filter test xs) (filter test xs)) z
      here true e same = subst (λ w. Contains (w ∷ filter test xs) z) (sym same) (first z (filter test xs))
      here false e same = cc

      beside : (b : Bool) → Contains (filter test xs) z → Contains (cond b (x ∷ filter test xs) (filter test xs)) z
      beside true h = later x z (filter test xs) h
      beside false h = h

  pub kept_from : (xs : List X) (z : X) → Contains (filter test xs) z → Contains xs z × (test z ≡ true)
  kept_from [] z h = among_none z h
  kept_from (x ∷ xs) z h = by (test x) refl h (kept_from xs z)
    where
      by : (b : Bool) → test x ≡ b → Contains (cond b (x ∷ filter test xs) (filter test xs)) z →
          (Contains (filter test xs) z → Contains xs z × (test z ≡ true)) → Contains (x ∷ xs) z × (test z ≡ true)
      by true e own rest =
          elim (either x z (filter test xs) own) [
            | inl same ↦ (subst (λ w. Contains (w ∷ xs) z) (sym same) (first z xs), subst (λ w. test w ≡ true) same e)
            | inr below ↦ let found = rest below in (later x z xs found.0, found.1)
          ]
      by false e own rest = let found = rest own in (later x z xs found.0, found.1)
