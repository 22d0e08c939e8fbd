-- The first item of lists one after another, and the first that a test finds.
use Rattle.std.proofs.Common.{◌≡◌, ℕ, ◌+◌, ◌<◌, ◌≤◌, Bool, true, false, cond, List, [], ◌∷◌, ◌++◌, length, take, drop, map, filter, get_or, ◌||◌, not, Option, Some, None, refl, sym, ◌∙◌, ap, arith}
use denote.Bor.{Bor}
use Rattle.std.proofs.lemmas.Bool.Decides.{nat_tests}
use Rattle.std.proofs.lemmas.Option.{slice_get_past, slice_get-map, get_or_from_slice_get, slice_get_within}
use Rattle.std.proofs.lemmas.List.Sums.{get_or-le-sum_by}
use Rattle.std.proofs.lemmas.List.Folds.{find_at}
use Rattle.std.proofs.lemmas.List.{length-map}
use Rattle.std.specs.List.{flat_map, slice_get, find, list_any, position, position_or_len, sum_by}
use Rattle.std.specs.Option.{is_some, option_copied, option_map, IfSome}
use Rattle.std.proofs.lemmas.List.{take_all, take-append-drop, flat_map_more}
use Rattle.std.proofs.lemmas.List.Concat.{flat_map-append}
use Rattle.pgs_resolve_declared.proofs.Walks.{one_more}

module _ {X : Type 0} where
  pub none_first : (xs : List X) → None ≡ slice_get xs 0 → xs ≡ []
  none_first [] e = refl
  none_first (x ∷ xs) e = cc

  pub first_of_two : (xs ys : List X) → xs ≡ [] → slice_get (xs ++ ys) 0 ≡ slice_get ys 0
  first_of_two xs ys e = ap (λ zs. slice_get (zs ++ ys) 0) e

  pub first_stays : (xs ys : List X) (y : X) → Some y ≡ slice_get xs 0 → Some y ≡ slice_get (xs ++ ys) 0
  first_stays [] ys y e = cc
  first_stays (x ∷ xs) ys y e = e

-- a name that a test finds among those of items
module _ {X K : Type 0} (key : X → K) (same : K → Bool) where
  pub some_found : (xs : List X) → list_any same (map key xs) ≡ is_some (find (λ x. same (key x)) xs)
  some_found [] = refl
  some_found (x ∷ xs) = found_by (same (key x)) (some_found xs)
    where
      found_by : (b : Bool) → list_any same (map key xs) ≡ is_some (find (λ x. same (key x)) xs) →
          (b || list_any same (map key xs)) ≡ is_some (cond b (Some x) (find (λ x. same (key x)) xs))
      found_by true e = refl
      found_by false e = e

module _ {X A : Type 0} (f : X → List A) where
  pub none_more : (xs : List X) (i : ℕ) (x : X) → i < length xs → x ≡ get_or xs i x →
      flat_map f (take i xs) ≡ [] → f x ≡ [] → flat_map f (take (i + 1) xs) ≡ []
  none_more xs i x lt is before here =
      ap (flat_map f) (one_more xs i x lt is) ∙ sym (flat_map_more f [] (take i xs) x) ∙ ap (λ ys. ys ++ f x) before ∙ here

  pub none_of : (xs ys : List X) (i : ℕ) → length xs ≤ i → xs ≡ ys → flat_map f (take i xs) ≡ [] → flat_map f ys ≡ []
  none_of xs ys i end same none = ap (flat_map f) (sym (take_all i xs end ∙ same)) ∙ none

  pub first_at : (xs ys : List X) (i : ℕ) (x : X) (y : A) → i < length xs → x ≡ get_or xs i x → xs ≡ ys →
      flat_map f (take i xs) ≡ [] → Some y ≡ slice_get (f x) 0 → Some y ≡ slice_get (flat_map f ys) 0
  first_at xs ys i x y lt is same before here =
      first_stays (f x) (flat_map f (drop (i + 1) xs)) y here
      ∙ ap (λ zs. slice_get (zs ++ flat_map f (drop (i + 1) xs)) 0)
      (ap (λ zs. zs ++ f x) (sym before) ∙ flat_map_more f [] (take i xs) x ∙ ap (flat_map f) (sym (one_more xs i x lt is)))
      ∙ ap (λ zs. slice_get zs 0) (sym (flat_map-append f (take (i + 1) xs) (drop (i + 1) xs)))
      ∙ ap (λ zs. slice_get (flat_map f zs) 0) (take-append-drop (i + 1) xs ∙ same)

-- a filter, an item at a time
pub filter_is : {X : Type 0} (p : X → Bool) (xs : List X) → flat_map (λ x. cond (p x) (x ∷ []) []) xs ≡ filter p xs
filter_is p [] = refl
filter_is p (x ∷ xs) = by (p x) (filter_is p xs)
  where
    by : (b : Bool) → flat_map (λ x. cond (p x) (x ∷ []) []) xs ≡ filter p xs →
        cond b (x ∷ []) [] ++ flat_map (λ x. cond (p x) (x ∷ []) []) xs ≡ cond b (x ∷ filter p xs) (filter p xs)
    by true e = ap (λ ys. x ∷ ys) e
    by false e = e

pub first_kept : {X : Type 0} (p : X → Bool) (xs : List X) (i : ℕ) (x : X) → i < length xs → x ≡ get_or xs i x →
    filter p (take i xs) ≡ [] → p x ≡ true → Some x ≡ slice_get (filter p xs) 0
first_kept {X} p xs i x lt is before here =
    let one : X → List X = λ y. cond (p y) (y ∷ []) [] in
    first_at one xs xs i x x lt is refl (filter_is p (take i xs) ∙ before) (sym (ap (λ b. slice_get (cond b (x ∷ []) []) 0) here))
    ∙ ap (λ ys. slice_get ys 0) (filter_is p xs)

-- what each of mapped items gives
pub flat_map_through : {X Y A : Type 0} (f : X → Y) (g : Y → List A) (xs : List X) → flat_map (λ x. g (f x)) xs ≡ flat_map g (map f xs)
flat_map_through f g [] = refl
flat_map_through f g (x ∷ xs) = ap (λ ys. g (f x) ++ ys) (flat_map_through f g xs)

-- the item of a name, by its place among the names of all
module _ {X K : Type 0} (key : X → K) (same : K → Bool) where
  same_place : (xs : List X) → position_or_len same (map key xs) ≡ position_or_len (λ x. same (key x)) xs
  same_place [] = refl
  same_place (x ∷ xs) = ap (λ n. cond (not (same (key x))) (1 + n) 0) (same_place xs)

  some_at : (b : Bool) (n k : ℕ) → Some n ≡ cond b (Some k) None → n ≡ k
  some_at true n k e = grind arith
  some_at false n k e = cc

  none_at : (b : Bool) (k : ℕ) → None ≡ cond b (Some k) None → b ≡ false
  none_at true k e = cc
  none_at false k e = refl

  pub named_at : (xs : List X) (names : List K) (n : ℕ) → names ≡ map key xs → Some n ≡ position same names → find (λ x. same (key x)) xs ≡ slice_get xs n
  named_at xs names n these at =
      find_at (λ x. same (key x)) xs
      ∙ ap (slice_get xs) (sym (same_place xs) ∙ ap (position_or_len same) (sym these) ∙ sym (some_at _ n _ at))

  pub named_nowhere : (xs : List X) (names : List K) → names ≡ map key xs → None ≡ position same names → find (λ x. same (key x)) xs ≡ None
  named_nowhere xs names these at =
      find_at (λ x. same (key x)) xs
      ∙ slice_get_past xs _ (let past = none_at _ _ at in let e = ap (position_or_len same) these ∙ same_place xs in let l = ap length these ∙ length-map xs key in grind (arith, nat_tests))

-- an item behind a reference
pub copied_at : {X : Type 0} (items : List (Bor X)) (n : ℕ) → option_copied (slice_get items n) ≡ slice_get (map (λ item. item.now) items) n
copied_at {X} items n = by (slice_get items n) ∙ sym (slice_get-map (λ item. item.now) items n)
  where
    by : (o : Option (Bor X)) → option_copied o ≡ option_map (λ item. item.now) o
    by None = refl
    by (Some item) = refl

-- what an item counts is within the sum over all
pub within_sum : {X : Type 0} (f : X → ℕ) (xs : List X) (n : ℕ) (o : Option X) → o ≡ slice_get xs n → IfSome o (λ x. f x ≤ sum_by f xs)
within_sum f xs n None e = tt
within_sum f xs n (Some x) e =
    let at = get_or_from_slice_get xs n x x (sym e) in
    let bound = get_or-le-sum_by f xs n x (slice_get_within xs n x (sym e)) in
    rw at at bound
