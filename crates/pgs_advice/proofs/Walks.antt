-- Walks over a list that put what each item gives where it isn't there.
use Rattle.std.proofs.Common.{◌≡◌, ℕ, ◌+◌, ◌<◌, ◌≤◌, List, [], ◌∷◌, length, take, get_or, Option, Some, None, refl, sym, ◌∙◌, ap}
use Rattle.std.specs.List.{filter_map, fold, cons_option}
use Rattle.std.specs.Option.{option_to_list}
use Rattle.std.proofs.lemmas.List.{take_all}
use Rattle.std.proofs.lemmas.List.Elements.{filter_map-append}
use Rattle.std.proofs.lemmas.List.Sums.{fold-append}
use Rattle.pgs_resolve_declared.proofs.Walks.{one_more}

module _ {X A B : Type 0} (f : X → Option A) (put : List B → A → List B) where
  one_kept : (o : Option A) → cons_option o [] ≡ option_to_list o
  one_kept None = refl
  one_kept (Some x) = refl

  pub more_found : (old : List B) (xs : List X) (i : ℕ) (x : X) (mid new : List B) (o : Option A) → i < length xs → x ≡ get_or xs i x →
      mid ≡ fold put old (filter_map f (take i xs)) → o ≡ f x → new ≡ fold put mid (option_to_list o) → new ≡ fold put old (filter_map f (take (i + 1) xs))
  more_found old xs i x mid new o h is before same after =
      after ∙ ap (λ ys. fold put mid (option_to_list ys)) same ∙ ap (λ ys. fold put ys (option_to_list (f x))) before
      ∙ ap (fold put (fold put old (filter_map f (take i xs)))) (sym (one_kept (f x)))
      ∙ sym (fold-append put old (filter_map f (take i xs)) (filter_map f (x ∷ [])))
      ∙ ap (fold put old) (sym (filter_map-append f (take i xs) (x ∷ [])) ∙ ap (filter_map f) (sym (one_more xs i x h is)))

  pub all_found : (old : List B) (xs ys : List X) (i : ℕ) (new : List B) → length xs ≤ i → xs ≡ ys →
      new ≡ fold put old (filter_map f (take i xs)) → new ≡ fold put old (filter_map f ys)
  all_found old xs ys i new h same before = before ∙ ap (λ zs. fold put old (filter_map f zs)) (take_all i xs h ∙ same)
