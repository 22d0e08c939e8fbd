-- What is found of the first items of a list, one item more, and all of them.
use Rattle.std.proofs.Common.{◌≡◌, ℕ, ◌+◌, ◌<◌, ◌≤◌, List, [], ◌∷◌, ◌++◌, take, get_or, length, append_assoc, Option, Some, None, refl, sym, ap, ◌∙◌, arith}
use Rattle.std.specs.Prelude.{filter_map}
use Rattle.std.specs.Option.{option_to_list}
use Rattle.std.specs.List.{cons_option}
use Rattle.std.proofs.lemmas.Grind.{common_steps}
use Rattle.std.proofs.lemmas.List.{take_more}
use Rattle.std.proofs.lemmas.List.Elements.{filter_map-append}

pub take_all : {X : Type 0} (xs : List X) (i : ℕ) → length xs ≤ i → take i xs ≡ xs
take_all xs i end = grind (arith, common_steps)

one_is : {Y : Type 0} (o : Option Y) → cons_option o [] ≡ option_to_list o
one_is None = refl
one_is (Some y) = refl

module _ {X Y : Type 0} (give : X → Option Y) (base : List Y) (xs : List X) (i : ℕ) where
  one_more : (d : X) → i < length xs →
      (base ++ filter_map give (take i xs)) ++ option_to_list (give (get_or xs i d)) ≡ base ++ filter_map give (take (i + 1) xs)
  one_more d below =
      append_assoc base (filter_map give (take i xs)) (option_to_list (give (get_or xs i d)))
      ∙ ap (λ ys. base ++ ys)
      (ap (λ ys. filter_map give (take i xs) ++ ys) (sym (one_is (give (get_or xs i d))))
      ∙ sym (filter_map-append give (take i xs) (get_or xs i d ∷ []))
      ∙ sym (ap (filter_map give) (take_more xs i d below)))

  -- one item more, of which what it gives is put last
  pub found_more : (item : X) → item ≡ get_or xs i item → i < length xs → (found more : List Y) (given : Option Y) →
      found ≡ base ++ filter_map give (take i xs) → more ≡ found ++ option_to_list given → given ≡ give item →
      more ≡ base ++ filter_map give (take (i + 1) xs)
  found_more item is below found more given so_far put gives =
      put ∙ ap (λ ys. ys ++ option_to_list given) so_far
      ∙ ap (λ o. (base ++ filter_map give (take i xs)) ++ option_to_list o) (gives ∙ ap give is) ∙ one_more item below

  -- the same of items that are copied
  pub found_next : (d : X) → i < length xs → (found more : List Y) (given : Option Y) →
      found ≡ base ++ filter_map give (take i xs) → more ≡ found ++ option_to_list given → given ≡ give (get_or xs i d) →
      more ≡ base ++ filter_map give (take (i + 1) xs)
  found_next d below found more given so_far put gives =
      put ∙ ap (λ ys. ys ++ option_to_list given) so_far
      ∙ ap (λ o. (base ++ filter_map give (take i xs)) ++ option_to_list o) gives ∙ one_more d below

  pub all_found : (found : List Y) → found ≡ base ++ filter_map give (take i xs) → length xs ≤ i → found ≡ base ++ filter_map give xs
  all_found found so_far end = so_far ∙ ap (λ ys. base ++ filter_map give ys) (take_all xs i end)
