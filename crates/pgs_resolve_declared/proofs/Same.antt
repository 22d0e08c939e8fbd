-- Names that are the same, and their places in a list.
use Rattle.std.proofs.Common.{◌≡◌, ℕ, ◌+◌, ◌≤◌, Bool, true, false, not, ◌||◌, cond, List, [], ◌∷◌, ◌++◌, length, Option, Some, None, refl, sym, ◌∙◌, ap, arith, ltb, eqb, length-append}
use Rattle.std.specs.Option.{is_some}
use Rattle.std.specs.List.{list_any, position, position_or_len}
use Rattle.std.proofs.lemmas.Bool.Decides.{nat_tests, same_from_decides}
use Rattle.std.proofs.lemmas.List.Folds.{position_or_len_push}
use Rattle.std.proofs.lemmas.Map.Text.{is_eq-slice_cmp}
use Rattle.std.proofs.lemmas.Slice.Eq.{bytes_eq-Decides}
use Rattle.pgs_base.specs.Pair.{same_name}

-- two names are the same exactly where they are equal
pub one_name : (a b : List ℕ) → same_name a b ≡ true → a ≡ b
one_name a b same = (bytes_eq-Decides a b).0 (sym (is_eq-slice_cmp a b) ∙ same)

pub itself : (a : List ℕ) → same_name a a ≡ true
itself a = is_eq-slice_cmp a a ∙ (bytes_eq-Decides a a).1 refl

pub in_turn : (a b : List ℕ) → same_name a b ≡ same_name b a
in_turn a b =
    same_from_decides _ _
    (λ (e : same_name a b ≡ true). sym (one_name a b e), λ (e : b ≡ a). ap (λ x. same_name x b) (sym e) ∙ itself b)
    (λ (e : same_name b a ≡ true). one_name b a e, λ (e : b ≡ a). ap (same_name b) (sym e) ∙ itself b)

module _ {X : Type 0} (p : X → Bool) where
  bound_by : (b : Bool) (n m : ℕ) → n ≤ m → cond (not b) (1 + n) 0 ≤ 1 + m
  bound_by true n m h = omega arith
  bound_by false n m h = omega (arith, h)

  pub first_bound : (xs : List X) → position_or_len p xs ≤ length xs
  first_bound [] = omega arith
  first_bound (x ∷ xs) = let h = bound_by (p x) _ _ (first_bound xs) in omega (arith, h)

  place_by : (b c : Bool) (n m : ℕ) → ltb n m ≡ c → ltb (cond (not b) (1 + n) 0) (1 + m) ≡ cond b true c
  place_by true c n m h = grind (arith, nat_tests)
  place_by false true n m h = grind (arith, nat_tests)
  place_by false false n m h = grind (arith, nat_tests)

  some_by : (b : Bool) (n : ℕ) → is_some (cond b (Some n) None) ≡ b
  some_by true n = refl
  some_by false n = refl

  before_end : (xs : List X) → ltb (position_or_len p xs) (length xs) ≡ list_any p xs
  before_end [] = refl
  before_end (x ∷ xs) = let h = place_by (p x) _ _ _ (before_end xs) in grind (arith, h)

  -- an element is among others exactly where it has a place
  pub some_place : (xs : List X) → is_some (position p xs) ≡ list_any p xs
  some_place xs = some_by _ _ ∙ before_end xs

  -- the first place after one more
  pub place_after : (xs : List X) (y : X) →
      position p (xs ++ y ∷ []) ≡ cond (is_some (position p xs)) (position p xs) (cond (p y) (Some (length xs)) None)
  place_after xs y =
      after (p y) _ _ _ _ (first_bound xs) (position_or_len_push p xs y) (length-append xs (y ∷ []))
    where
      after : (b : Bool) (n m k l : ℕ) → n ≤ m → k ≡ cond (eqb n m) (m + cond b 0 1) n → l ≡ m + 1 →
          cond (ltb k l) (Some k) None ≡ cond (is_some (cond (ltb n m) (Some n) None)) (cond (ltb n m) (Some n) None) (cond b (Some m) None)
      after b n m k l h e f = grind (arith, nat_tests)

-- A name is put last. Where it was there, each name stays at its first place; else it alone gets a new one.
put_by : (b : Bool) (name q : List ℕ) (names : List (List ℕ)) → same_name q name ≡ b →
    is_some (position (same_name name) names) ≡ true →
    cond (is_some (position (same_name q) names)) (position (same_name q) names) (cond b (Some (length names)) None) ≡ position (same_name q) names
put_by true name q names same there =
    ap (λ c. cond c (position (same_name q) names) (Some (length names))) (ap (λ n. is_some (position (same_name n) names)) (one_name q name same) ∙ there)
put_by false name q names same there = where_placed (position (same_name q) names)
  where
    where_placed : (o : Option ℕ) → cond (is_some o) o None ≡ o
    where_placed (Some x) = refl
    where_placed None = refl

pub known_stays : (names : List (List ℕ)) (name q : List ℕ) → is_some (position (same_name name) names) ≡ true →
    position (same_name q) (names ++ name ∷ []) ≡ position (same_name q) names
known_stays names name q there = place_after (same_name q) names name ∙ put_by _ name q names refl there

new_by : (b : Bool) (name q : List ℕ) (names : List (List ℕ)) → same_name q name ≡ b →
    is_some (position (same_name name) names) ≡ false →
    cond (is_some (position (same_name q) names)) (position (same_name q) names) (cond b (Some (length names)) None)
    ≡ cond b (Some (length names)) (position (same_name q) names)
new_by true name q names same there =
    ap (λ c. cond c (position (same_name q) names) (Some (length names))) (ap (λ n. is_some (position (same_name n) names)) (one_name q name same) ∙ there)
new_by false name q names same there = where_placed (position (same_name q) names)
  where
    where_placed : (o : Option ℕ) → cond (is_some o) o None ≡ o
    where_placed (Some x) = refl
    where_placed None = refl

pub new_place : (names : List (List ℕ)) (name q : List ℕ) → is_some (position (same_name name) names) ≡ false →
    cond (same_name name q) (Some (length names)) (position (same_name q) names) ≡ position (same_name q) (names ++ name ∷ [])
new_place names name q there =
    ap (λ b. cond b (Some (length names)) (position (same_name q) names)) (in_turn name q)
    ∙ sym (place_after (same_name q) names name ∙ new_by _ name q names refl there)

-- a name is put last, and has a number from then on
pub placed : (names after : List (List ℕ)) (name : List ℕ) (number : ℕ) (old new : List ℕ → Option ℕ) → ((q : List ℕ) → old q ≡ position (same_name q) names) →
    number ≡ length names → after ≡ names ++ name ∷ [] → (q : List ℕ) → new q ≡ cond (is_some (old name) || not (same_name name q)) (old q) (Some number) →
    new q ≡ position (same_name q) after
placed names after name number old new known size put q given =
    given ∙ (λ j. cond (is_some (known name j) || not (same_name name q)) (known q j) (Some (size j)))
    ∙ by (is_some (position (same_name name) names)) refl ∙ ap (position (same_name q)) (sym put)
  where
    turned : (b : Bool) → cond (not b) (position (same_name q) names) (Some (length names)) ≡ cond b (Some (length names)) (position (same_name q) names)
    turned true = refl
    turned false = refl

    by : (b : Bool) → is_some (position (same_name name) names) ≡ b →
        cond (is_some (position (same_name name) names) || not (same_name name q)) (position (same_name q) names) (Some (length names)) ≡ position (same_name q) (names ++ name ∷ [])
    by true there = ap (λ b. cond (b || not (same_name name q)) (position (same_name q) names) (Some (length names))) there ∙ sym (known_stays names name q there)
    by false there =
        ap (λ b. cond (b || not (same_name name q)) (position (same_name q) names) (Some (length names))) there ∙ turned (same_name name q) ∙ new_place names name q there

-- what a look-up gives once a name has a number: as before where it had one, and else with it
pub had_number : (there same : Bool) (o : Option ℕ) (number : ℕ) → there ≡ true → o ≡ cond (there || not same) o (Some number)
had_number there same o number is = ap (λ b. cond (b || not same) o (Some number)) (sym is)

pub gets_number : (there same : Bool) (o : Option ℕ) (number : ℕ) → there ≡ false → cond same (Some number) o ≡ cond (there || not same) o (Some number)
gets_number there same o number is = by same ∙ ap (λ b. cond (b || not same) o (Some number)) (sym is)
  where
    by : (same : Bool) → cond same (Some number) o ≡ cond (not same) o (Some number)
    by true = refl
    by false = refl
