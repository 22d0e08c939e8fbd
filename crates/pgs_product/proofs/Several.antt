-- Joins of several: a list of tests may be cut in two, and what some shapes of a list have may be asked shape by shape.
use Rattle.std.proofs.Common.{◌≡◌, ℕ, Bool, true, false, ◌&&◌, ◌||◌, List, [], ◌∷◌, ◌++◌, take, drop, map, refl, sym, ◌∙◌, ap}
use Rattle.std.specs.List.{list_any}
use Rattle.std.specs.List.Sorted.{IsPermutation}
use Rattle.std.proofs.lemmas.List.Sorted.{IsPermutation-append_comm, IsPermutation-append_left}
use Rattle.pgs_syntax.specs.Join.{Joins, joined, joined_all, is_empty_pair}
use Rattle.pgs_syntax.proofs.Halves.{any_same, any_and, joined_any, joined_same}
use Rattle.pgs_product.proofs.Walks.{map_cut}

-- ---- tests of lists

or_swap : (a b c d : Bool) → ((a || b) || (c || d)) ≡ ((a || c) || (b || d))
or_swap true b c d = refl
or_swap false true true d = refl
or_swap false true false d = refl
or_swap false false c d = refl

any_or : {X : Type 0} (f g : X → Bool) (xs : List X) → list_any (λ x. f x || g x) xs ≡ (list_any f xs || list_any g xs)
any_or f g [] = refl
any_or f g (x ∷ xs) = ap (λ b. (f x || g x) || b) (any_or f g xs) ∙ or_swap (f x) (g x) (list_any f xs) (list_any g xs)

any_never : {X : Type 0} (xs : List X) → list_any (λ x. false) xs ≡ false
any_never [] = refl
any_never (x ∷ xs) = any_never xs

any_exchanged : {X Y : Type 0} (c : X → Y → Bool) (xs : List X) (ys : List Y) →
    list_any (λ x. list_any (c x) ys) xs ≡ list_any (λ y. list_any (λ x. c x y) xs) ys
any_exchanged c [] ys = sym (any_never ys)
any_exchanged c (x ∷ xs) ys =
    ap (λ b. list_any (c x) ys || b) (any_exchanged c xs ys) ∙ sym (any_or (c x) (λ y. list_any (λ z. c z y) xs) ys)

and_comm : (a b : Bool) → (a && b) ≡ (b && a)
and_comm true true = refl
and_comm true false = refl
and_comm false true = refl
and_comm false false = refl

both_any : {X Y : Type 0} (f : X → Bool) (g : Y → Bool) (xs : List X) (ys : List Y) →
    (list_any g ys && list_any f xs) ≡ list_any (λ x. list_any (λ y. g y && f x) ys) xs
both_any f g xs ys =
    sym (any_and (list_any g ys) f xs)
    ∙ any_same _ _ (λ x. and_comm (list_any g ys) (f x) ∙ sym (any_and (f x) g ys) ∙ any_same _ _ (λ y. and_comm (f x) (g y)) ys) xs

-- what some of each of two lists have in a join
pub any_joined : {P S : Type 0} (joins : Joins P) (has : S → P → Bool) (first second : List S) (p : P) →
    list_any (λ x. list_any (λ y. joined joins (has x) (has y) p) second) first
    ≡ joined joins (λ q. list_any (λ x. has x q) first) (λ q. list_any (λ y. has y q) second) p
any_joined {P} {S} joins has first second p =
    any_same _ _ (λ x. any_same _ _ (λ y. joined_any joins (has x) (has y) p) second
    ∙ any_exchanged (λ (y : S) (s : P × P). has y s.1 && has x s.0) second (joins.halves_of p)) first
    ∙ any_exchanged (λ (x : S) (s : P × P). list_any (λ (y : S). has y s.1 && has x s.0) second) first (joins.halves_of p)
    ∙ any_same _ _ (λ (s : P × P). sym (both_any (λ x. has x s.0) (λ y. has y s.1) first second)) (joins.halves_of p)
    ∙ sym (joined_any joins (λ q. list_any (λ x. has x q) first) (λ q. list_any (λ y. has y q) second) p)

-- ---- tests of joins

-- what is used of joins: only good ones are asked, a part that has to be empty changes nothing, and tests may stand in any order
pub record AreLawful {P : Type 0} (joins : Joins P) (Good : P → Type 0) : Type 0 where
  pub alike : (f g h k : P → Bool) → ((p : P) → Good p → f p ≡ h p) → ((p : P) → Good p → g p ≡ k p) → (p : P) → Good p →
      joined joins f g p ≡ joined joins h k p
  pub unit : (f : P → Bool) (p : P) → joined joins f (joins.asks is_empty_pair) p ≡ f p
  pub any_order : (tests others : List (P → Bool)) → IsPermutation tests others → (p : P) → joined_all joins tests p ≡ joined_all joins others p

module _ {P : Type 0} (joins : Joins P) (Good : P → Type 0) (laws : AreLawful joins Good) where
  abbrev join : (P → Bool) → (P → Bool) → P → Bool
  join = joined joins

  abbrev all : List (P → Bool) → P → Bool
  all = joined_all joins

  two_first : (f g : P → Bool) (tests : List (P → Bool)) (p : P) → all (f ∷ g ∷ tests) p ≡ all (g ∷ f ∷ tests) p
  two_first f g tests p =
      laws.any_order (f ∷ g ∷ tests) (g ∷ f ∷ tests)
      (IsPermutation-append_left tests (f ∷ g ∷ []) (g ∷ f ∷ []) (IsPermutation-append_comm (f ∷ []) (g ∷ []))) p

  exchanged : (f g : P → Bool) (p : P) → join f g p ≡ join g f p
  exchanged f g p =
      joined_same joins f g f (join g (joins.asks is_empty_pair)) (λ q. refl) (λ q. sym (laws.unit g q)) p
      ∙ two_first f g [] p
      ∙ joined_same joins g (join f (joins.asks is_empty_pair)) g f (λ q. refl) (laws.unit f) p

  regrouped : (f : P → Bool) (tests : List (P → Bool)) (g : P → Bool) (p : P) → join f (join (all tests) g) p ≡ join (join f (all tests)) g p
  regrouped f tests g p =
      joined_same joins f (join (all tests) g) f (join g (all tests)) (λ q. refl) (exchanged (all tests) g) p
      ∙ two_first f g tests p ∙ exchanged g (join f (all tests)) p

  pub all_cut : (tests others : List (P → Bool)) (p : P) → joined_all joins (tests ++ others) p ≡ joined joins (joined_all joins tests) (joined_all joins others) p
  all_cut [] others p = sym (exchanged (joins.asks is_empty_pair) (all others) p ∙ laws.unit (all others) p)
  all_cut (test ∷ tests) others p =
      joined_same joins test (all (tests ++ others)) test (join (all tests) (all others)) (λ q. refl) (all_cut tests others) p
      ∙ regrouped test tests (all others) p

  -- lists that denote the joins of the tests of two lists of tests
  cut_denotes : {S : Type 0} (has : S → P → Bool) (first second whole : List S) (tests others : List (P → Bool)) →
      ((p : P) → Good p → list_any (λ x. has x p) first ≡ joined_all joins tests p) →
      ((p : P) → Good p → list_any (λ x. has x p) second ≡ joined_all joins others p) →
      ((p : P) → Good p → list_any (λ x. has x p) whole ≡ joined joins (λ q. list_any (λ x. has x q) first) (λ q. list_any (λ x. has x q) second) p) →
      (p : P) → Good p → list_any (λ x. has x p) whole ≡ joined_all joins (tests ++ others) p
  cut_denotes has first second whole tests others f s w p good =
      w p good ∙ laws.alike _ _ _ _ f s p good ∙ sym (all_cut tests others p)

  -- lists of which each has what its test asks: one alone, and two halves
  module _ {S : Type 0} (has : S → P → Bool) where
    abbrev some : List S → P → Bool
    some shapes p = list_any (λ x. has x p) shapes

    pub one_denotes : (lists : List (List S)) (only lent whole : List S) → lists ≡ only ∷ [] → lent ≡ only → ((p : P) → some whole p ≡ some lent p) →
        (p : P) → some whole p ≡ joined_all joins (map some lists) p
    one_denotes lists only lent whole one is same p =
        same p ∙ ap (λ shapes. some shapes p) is ∙ sym (laws.unit (some only) p) ∙ ap (λ ls. joined_all joins (map some ls) p) (sym one)

    pub halves_denote : (n : ℕ) (lists front back : List (List S)) (first second one other : List S) → front ≡ take n lists → back ≡ drop n lists →
        one ≡ first → other ≡ second →
        ((p : P) → Good p → some first p ≡ joined_all joins (map some front) p) → ((p : P) → Good p → some second p ≡ joined_all joins (map some back) p) →
        (whole : List S) → ((p : P) → Good p → some whole p ≡ joined joins (some one) (some other) p) →
        (p : P) → Good p → some whole p ≡ joined_all joins (map some lists) p
    halves_denote n lists front back first second one other a b same_one same_other f s whole w p good =
        cut_denotes has one other whole (map some front) (map some back) (λ q fine. ap (λ shapes. some shapes q) same_one ∙ f q fine)
        (λ q fine. ap (λ shapes. some shapes q) same_other ∙ s q fine) w p good
        ∙ ap (λ tests. joined_all joins tests p) (map_cut some n lists front back a b)
