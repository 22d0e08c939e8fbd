-- What is among items that are made of others.
use Rattle.std.proofs.Common.{◌≡◌, zero, suc, Bool, true, false, cond, ◌⊎◌, inl, inr, List, [], ◌∷◌, map, refl, sym, subst, arith, flat_map}
use Rattle.std.specs.List.{Contains}
use Rattle.std.proofs.lemmas.List.Elements.{Contains-append_left, Contains-append_right, Contains-append_cases}

module _ {X : Type 0} where
  pub among_none : {A : Type 0} (x : X) → Contains [] x → A
  among_none x h = absurd (omega (arith, h.1))

  pub only : (y x : X) → Contains (y ∷ []) x → y ≡ x
  only y x (zero, low, is) = is
  only y x (suc k, low, is) = absurd (omega arith)

  pub first : (x : X) (xs : List X) → Contains (x ∷ xs) x
  first x xs = (0, (omega arith), refl)

  pub later : (y x : X) (xs : List X) → Contains xs x → Contains (y ∷ xs) x
  later y x xs h = Contains-append_right (y ∷ []) xs x h

  pub either : (y x : X) (xs : List X) → Contains (y ∷ xs) x → (y ≡ x) ⊎ Contains xs x
  either y x xs h = elim (Contains-append_cases (y ∷ []) xs x h) [ inl one ↦ inl (only y x one) | inr rest ↦ inr rest ]

-- of what is made of each item
module _ {X A : Type 0} (f : X → List A) where
  pub made_of : (xs : List X) (a : A) → Contains (flat_map f xs) a → (x : X) × Contains xs x × Contains (f x) a
  made_of [] a h = among_none a h
  made_of (x ∷ xs) a h =
      elim (Contains-append_cases (f x) (flat_map f xs) a h) [
        | inl own ↦ (x, first x xs, own)
        | inr rest ↦ let found = made_of xs a rest in (found.0, later x found.0 xs found.1, found.2)
      ]

  pub is_made : (xs : List X) (x : X) (a : A) → Contains xs x → Contains (f x) a → Contains (flat_map f xs) a
  is_made [] x a h own = among_none x h
  is_made (y ∷ ys) x a h own =
      elim (either y x ys h) [
        | inl same ↦ Contains-append_left (f y) (flat_map f ys) a (subst (λ z. Contains (f z) a) (sym same) own)
        | inr rest ↦ Contains-append_right (f y) (flat_map f ys) a (is_made ys x a rest own)
      ]

-- of the images of items
module _ {X A : Type 0} (f : X → A) where
  pub image_of : (xs : List X) (a : A) → Contains (map f xs) a → (x : X) × Contains xs x × (f x ≡ a)
  image_of [] a h = among_none a h
  image_of (x ∷ xs) a h =
      elim (either (f x) a (map f xs) h) [
        | inl own ↦ (x, first x xs, own)
        | inr rest ↦ let found = image_of xs a rest in (found.0, later x found.0 xs found.1, found.2)
      ]

  pub is_image : (xs : List X) (x : X) → Contains xs x → Contains (map f xs) (f x)
  is_image [] x h = among_none x h
  is_image (y ∷ ys) x h =
      elim (either y x ys h) [
        | inl same ↦ subst (λ z. Contains (f y ∷ map f ys) (f z)) same (first (f y) (map f ys))
        | inr rest ↦ later (f y) (f x) (map f ys) (is_image ys x rest)
      ]

-- of at most one, unless a test holds
module _ {A : Type 0} (a : A) where
  pub by_test : (P : A → Type 0) (b : Bool) (x : A) → (b ≡ false → P a) → Contains (cond b [] (a ∷ [])) x → P x
  by_test P true x holds h = among_none x h
  by_test P false x holds h = subst P (only a x h) (holds refl)

  pub where_false : (b : Bool) → b ≡ false → Contains (cond b [] (a ∷ [])) a
  where_false true e = cc
  where_false false e = first a []
