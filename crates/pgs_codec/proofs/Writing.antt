-- What is written field by field: the parts one after another, and one more field of a list.
use Rattle.std.proofs.Common.{◌≡◌, ℕ, ◌+◌, ◌<◌, ◌≤◌, Bool, true, false, ◌&&◌, List, [], ◌∷◌, ◌++◌, length, get_or, take, flat_map, sym, ap, ◌∙◌, append_assoc}
use Rattle.std.specs.List.{list_all}
use Rattle.std.proofs.lemmas.Bool.{and_from, and_parts}
use Rattle.std.proofs.lemmas.List.{flat_map_more, take_all, take_more}
use Rattle.std.proofs.lemmas.List.Folds.{list_all_at, list_all_more}

-- ---- one part behind another

pub then_part : (kind : ℕ) (old a b before after : List ℕ) → before ≡ old ++ kind ∷ a → after ≡ before ++ b → after ≡ old ++ kind ∷ (a ++ b)
then_part kind old a b before after e h = h ∙ ap (λ l. l ++ b) e ∙ append_assoc old (kind ∷ a) b

pub third_part : (kind : ℕ) (old a b c before after : List ℕ) → before ≡ old ++ kind ∷ (a ++ b) → after ≡ before ++ c → after ≡ old ++ kind ∷ (a ++ (b ++ c))
third_part kind old a b c before after e h =
    then_part kind old (a ++ b) c before after e h ∙ ap (λ l. old ++ kind ∷ l) (append_assoc a b c)

pub fifth_part : (kind : ℕ) (old a b c d e first second after : List ℕ) → first ≡ old ++ kind ∷ (a ++ (b ++ c)) → second ≡ first ++ d → after ≡ second ++ e
    → after ≡ old ++ kind ∷ (a ++ (b ++ (c ++ (d ++ e))))
fifth_part kind old a b c d e first second after h₁ h₂ h₃ = rw (h₃, h₂, h₁) (simp append_assoc)

pub four_parts : (old a b c d first second third after : List ℕ) → first ≡ old ++ a → second ≡ first ++ b → third ≡ second ++ c → after ≡ third ++ d
    → after ≡ old ++ (a ++ (b ++ (c ++ d)))
four_parts old a b c d first second third after h₁ h₂ h₃ h₄ = rw (h₄, h₃, h₂, h₁) (simp append_assoc)

-- ---- tests of parts one after another

pub first_two : (a b c : Bool) → (a && (b && c)) ≡ true → (a && b) ≡ true
first_two a b c e =
    let outer = and_parts a (b && c) e in
    and_from a b outer.0 (and_parts b c outer.1).0

pub last_of_three : (a b c : Bool) → (a && (b && c)) ≡ true → c ≡ true
last_of_three a b c e = (and_parts b c (and_parts a (b && c) e).1).1

pub three_pass : (a b c : Bool) → (a && b) ≡ true → c ≡ true → (a && (b && c)) ≡ true
three_pass a b c e h =
    let both = and_parts a b e in
    and_from a (b && c) both.0 (and_from b c both.1 h)

pub four_pass : (a b c d : Bool) → a ≡ true → b ≡ true → c ≡ true → d ≡ true → (a && (b && (c && d))) ≡ true
four_pass a b c d p q r s = and_from a (b && (c && d)) p (and_from b (c && d) q (and_from c d r s))

pub five_pass : (a b c d e : Bool) → (a && (b && c)) ≡ true → d ≡ true → e ≡ true → (a && (b && (c && (d && e)))) ≡ true
five_pass a b c d e abc p q =
    let outer = and_parts a (b && c) abc in
    let inner = and_parts b c outer.1 in
    and_from a (b && (c && (d && e))) outer.0 (four_pass b c d e inner.0 inner.1 p q)

-- ---- one more field of a list

module _ {X : Type 0} (field : X → List ℕ) (test : X → Bool) (xs : List X) (i : ℕ) (x : X) (lt : i < length xs) (is : x ≡ get_or xs i x) where
  pub tested_at : list_all test xs ≡ true → test x ≡ true
  tested_at all = ap test is ∙ by (test (get_or xs i x)) (λ j. test (get_or xs i x))
    where
      by : (b : Bool) → test (get_or xs i x) ≡ b → test (get_or xs i x) ≡ true
      by true e = e
      by false e = let none : list_all test xs ≡ false = list_all_at test xs i x lt e in absurd cc

  pub written_more : (old before after : List ℕ) → before ≡ old ++ flat_map field (take i xs) → after ≡ before ++ field x → after ≡ old ++ flat_map field (take (i + 1) xs)
  written_more old before after so_far written =
      written ∙ ap (λ l. l ++ field x) so_far ∙ flat_map_more field old (take i xs) x
      ∙ ap (λ l. old ++ flat_map field l) (ap (λ (y : X). take i xs ++ y ∷ []) is ∙ sym (take_more xs i x lt))

  pub tested_more : list_all test (take i xs) ≡ true → test x ≡ true → list_all test (take (i + 1) xs) ≡ true
  tested_more so_far passed =
      list_all_more test xs i x lt ∙ and_from (list_all test (take i xs)) (test (get_or xs i x)) so_far (ap test (sym is) ∙ passed)

-- all fields
module _ {X : Type 0} (field : X → List ℕ) (test : X → Bool) (xs : List X) (i : ℕ) (ended : length xs ≤ i) where
  pub written_all : (old after : List ℕ) → after ≡ old ++ flat_map field (take i xs) → after ≡ old ++ flat_map field xs
  written_all old after so_far = so_far ∙ ap (λ l. old ++ flat_map field l) (take_all i xs ended)

  pub tested_all : list_all test (take i xs) ≡ true → list_all test xs ≡ true
  tested_all so_far = ap (list_all test) (sym (take_all i xs ended)) ∙ so_far
