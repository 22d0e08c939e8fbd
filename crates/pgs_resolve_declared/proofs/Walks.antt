-- Walks over a list that put what each item gives behind what was there.
use Rattle.std.proofs.Common.{◌≡◌, ℕ, ◌+◌, ◌<◌, ◌≤◌, List, [], ◌∷◌, ◌++◌, length, take, map, get_or, Option, Some, None, refl, sym, ◌∙◌, ap}
use Rattle.std.specs.List.{flat_map, filter_map, cons_option}
use Rattle.std.specs.Option.{option_to_list}
use Rattle.std.proofs.lemmas.List.{append-nil, append_assoc, map-append, take_all, take_more, flat_map_more}
use Rattle.std.proofs.lemmas.List.Elements.{filter_map-append}

-- one more item of a list
module _ {X : Type 0} where
  pub one_more : (xs : List X) (i : ℕ) (x : X) → i < length xs → x ≡ get_or xs i x → take (i + 1) xs ≡ take i xs ++ x ∷ []
  one_more xs i x h is = take_more xs i x h ∙ ap (λ y. take i xs ++ y ∷ []) (sym is)

-- what is put behind: nothing yet, two lists one after the other, three
module _ {A : Type 0} where
  pub none_yet : (old : List A) → old ≡ old ++ []
  none_yet old = sym (append-nil old)

  pub both_put : (old mid new a b : List A) → mid ≡ old ++ a → new ≡ mid ++ b → new ≡ old ++ (a ++ b)
  both_put old mid new a b before after = after ∙ ap (λ ys. ys ++ b) before ∙ append_assoc old a b

-- what each item gives
module _ {X A : Type 0} (f : X → A) where
  pub more_mapped : (old : List A) (xs : List X) (i : ℕ) (x : X) (mid new : List A) (a : A) → i < length xs → x ≡ get_or xs i x →
      mid ≡ old ++ map f (take i xs) → a ≡ f x → new ≡ mid ++ a ∷ [] → new ≡ old ++ map f (take (i + 1) xs)
  more_mapped old xs i x mid new a h is before same after =
      after ∙ (λ j. before j ++ same j ∷ []) ∙ append_assoc old (map f (take i xs)) (f x ∷ [])
      ∙ ap (λ ys. old ++ ys) (sym (map-append f (take i xs) (x ∷ [])) ∙ ap (map f) (sym (one_more xs i x h is)))

  pub all_mapped : (old : List A) (xs : List X) (i : ℕ) (new : List A) → length xs ≤ i → new ≡ old ++ map f (take i xs) → new ≡ old ++ map f xs
  all_mapped old xs i new h before = before ∙ ap (λ ys. old ++ map f ys) (take_all i xs h)

module _ {X A : Type 0} (f : X → List A) where
  pub more_of : (old : List A) (xs : List X) (i : ℕ) (x : X) (mid new : List A) → i < length xs → x ≡ get_or xs i x →
      mid ≡ old ++ flat_map f (take i xs) → new ≡ mid ++ f x → new ≡ old ++ flat_map f (take (i + 1) xs)
  more_of old xs i x mid new h is before after =
      after ∙ ap (λ ys. ys ++ f x) before ∙ flat_map_more f old (take i xs) x ∙ ap (λ ys. old ++ flat_map f ys) (sym (one_more xs i x h is))

  pub all_of : (old : List A) (xs ys : List X) (i : ℕ) (new : List A) → length xs ≤ i → xs ≡ ys →
      new ≡ old ++ flat_map f (take i xs) → new ≡ old ++ flat_map f ys
  all_of old xs ys i new h same before = before ∙ ap (λ zs. old ++ flat_map f zs) (take_all i xs h ∙ same)

module _ {X A : Type 0} (f : X → Option A) where
  one_kept : (o : Option A) → cons_option o [] ≡ option_to_list o
  one_kept None = refl
  one_kept (Some x) = refl

  pub more_kept : (old : List A) (xs : List X) (i : ℕ) (x : X) (mid new : List A) → i < length xs → x ≡ get_or xs i x →
      mid ≡ old ++ filter_map f (take i xs) → new ≡ mid ++ option_to_list (f x) → new ≡ old ++ filter_map f (take (i + 1) xs)
  more_kept old xs i x mid new h is before after =
      after ∙ ap (λ ys. ys ++ option_to_list (f x)) before ∙ append_assoc old (filter_map f (take i xs)) (option_to_list (f x))
      ∙ ap (λ ys. old ++ ys)
      (ap (λ ys. filter_map f (take i xs) ++ ys) (sym (one_kept (f x))) ∙ sym (filter_map-append f (take i xs) (x ∷ []))
      ∙ ap (filter_map f) (sym (one_more xs i x h is)))

  pub all_kept : (old : List A) (xs ys : List X) (i : ℕ) (new : List A) → length xs ≤ i → xs ≡ ys →
      new ≡ old ++ filter_map f (take i xs) → new ≡ old ++ filter_map f ys
  all_kept old xs ys i new h same before = before ∙ ap (λ zs. old ++ filter_map f zs) (take_all i xs h ∙ same)

  -- what is kept of two lists one after another
  pub both_kept : (xs ys : List X) (old mid new : List A) → mid ≡ old ++ filter_map f xs → new ≡ mid ++ filter_map f ys → new ≡ old ++ filter_map f (xs ++ ys)
  both_kept xs ys old mid new before after =
      after ∙ ap (λ zs. zs ++ filter_map f ys) before ∙ append_assoc old (filter_map f xs) (filter_map f ys)
      ∙ ap (λ zs. old ++ zs) (sym (filter_map-append f xs ys))

-- what is kept of what each item gives
module _ {X Y A : Type 0} (f : X → List Y) (h : Y → Option A) where
  pub more_kept_of : (old : List A) (xs : List X) (i : ℕ) (x : X) (mid new : List A) → i < length xs → x ≡ get_or xs i x →
      mid ≡ old ++ filter_map h (flat_map f (take i xs)) → new ≡ mid ++ filter_map h (f x) → new ≡ old ++ filter_map h (flat_map f (take (i + 1) xs))
  more_kept_of old xs i x mid new lt is before after =
      both_put old mid new (filter_map h (flat_map f (take i xs))) (filter_map h (f x)) before after
      ∙ ap (λ ys. old ++ ys)
      (sym (filter_map-append h (flat_map f (take i xs)) (f x))
      ∙ ap (filter_map h) (flat_map_more f [] (take i xs) x ∙ ap (flat_map f) (sym (one_more xs i x lt is))))

  pub all_kept_of : (old : List A) (xs : List X) (i : ℕ) (new : List A) → length xs ≤ i →
      new ≡ old ++ filter_map h (flat_map f (take i xs)) → new ≡ old ++ filter_map h (flat_map f xs)
  all_kept_of old xs i new end before = before ∙ ap (λ ys. old ++ filter_map h (flat_map f ys)) (take_all i xs end)

-- two maps one after the other
pub map_through : {X Y Z : Type 0} (f : X → Y) (g : Y → Z) (xs : List X) → map (λ x. g (f x)) xs ≡ map g (map f xs)
map_through f g [] = refl
map_through f g (x ∷ xs) = ap (λ ys. g (f x) ∷ ys) (map_through f g xs)

-- what is kept of mapped items
pub kept_through : {X Y A : Type 0} (f : X → Y) (h : Y → Option A) (xs : List X) → filter_map (λ x. h (f x)) xs ≡ filter_map h (map f xs)
kept_through f h [] = refl
kept_through f h (x ∷ xs) = ap (cons_option (h (f x))) (kept_through f h xs)
