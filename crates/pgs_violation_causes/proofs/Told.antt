-- The texts of one type more.
use Rattle.std.proofs.Common.{◌≡◌, ◌∷◌, ◌++◌, ◌+◌, ◌<◌, [], ℕ, List, Option, length, get_or, take, sym, ap, ◌∙◌}
use Rattle.std.specs.Prelude.{filter_map}
use Rattle.std.proofs.lemmas.List.{take_more}
use Rattle.std.proofs.lemmas.List.Elements.{filter_map-append}

pub more_texts : {X : Type 0} (f : X → Option (List ℕ)) (xs : List X) (i : ℕ) (x : X) (old new : List (List ℕ)) → i < length xs → x ≡ get_or xs i x
    → old ≡ filter_map f (take i xs) → new ≡ old ++ filter_map f (x ∷ []) → new ≡ filter_map f (take (i + 1) xs)
more_texts f xs i x old new within is before after =
    after ∙ ap (λ texts. texts ++ filter_map f (x ∷ [])) before ∙ sym (filter_map-append f (take i xs) (x ∷ []))
    ∙ ap (filter_map f) (ap (λ y. take i xs ++ y ∷ []) is ∙ sym (take_more xs i x within))
