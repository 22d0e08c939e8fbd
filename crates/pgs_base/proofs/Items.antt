-- What a read at a place of a list gives, and a list that is copied item by item.
use Rattle.std.proofs.Common.{◌≡◌, ℕ, ◌+◌, ◌<◌, List, [], ◌∷◌, ◌++◌, length, get_or, take, slice_get, Option, Some, None, OnSome, Bor, sym, ap, ◌∙◌}
use Rattle.std.specs.Option.{option_copied}
use Rattle.std.specs.Slice.{IsItemAt}
use Rattle.std.proofs.lemmas.List.{take_more}
use Rattle.std.proofs.lemmas.Option.{slice_get_past, slice_get-get_or}

module _ {X : Type 0} where
  pub item_read : (xs : List X) (i : ℕ) (r : Option (Bor X)) → IsItemAt xs i r → option_copied r ≡ slice_get xs i
  item_read xs i None h = sym (slice_get_past xs i h.3)
  item_read xs i (Some x) h = ap Some (h.3.1 x.now) ∙ sym (slice_get-get_or xs i x.now h.3.0)

  pub item_within : (xs : List X) (i : ℕ) (r : Option (Bor X)) → IsItemAt xs i r → OnSome r (i < length xs)
  item_within xs i None h = tt
  item_within xs i (Some x) h = h.3.0

  pub copied_more : (xs copied after : List X) (i : ℕ) (item copy : X) → i < length xs → copied ≡ take i xs → copy ≡ item → item ≡ get_or xs i item → after ≡ copied ++ copy ∷ [] → after ≡ take (i + 1) xs
  copied_more xs copied after i item copy lt so_far same is pushed = pushed ∙ joined ∙ sym (take_more xs i item lt)
    where
      joined : copied ++ copy ∷ [] ≡ take i xs ++ get_or xs i item ∷ []
      joined = λ j. so_far j ++ (same ∙ is) j ∷ []
