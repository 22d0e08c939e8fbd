-- Walks over a numbered list that put what each item gives last.
use Rattle.std.proofs.Common.{◌≡◌, ℕ, ◌+◌, ◌<◌, List, ◌++◌, length, take, get_or, sym, ◌∙◌, ap}
use Rattle.std.specs.List.{enumerate_from, flat_map}
use Rattle.std.proofs.lemmas.List.{flat_map_more}
use Rattle.pgs_advice.proofs.Numbered.{one_numbered}

module _ {X A : Type 0} (f : ℕ × X → List A) where
  pub more_numbered : (old : List A) (xs : List X) (i : ℕ) (x : X) (mid new : List A) → i < length xs → x ≡ get_or xs i x →
      mid ≡ old ++ flat_map f (enumerate_from 0 (take i xs)) → new ≡ mid ++ f (i, x) → new ≡ old ++ flat_map f (enumerate_from 0 (take (i + 1) xs))
  more_numbered old xs i x mid new h is before after =
      after ∙ ap (λ ys. ys ++ f (i, x)) before ∙ flat_map_more f old (enumerate_from 0 (take i xs)) (i, x) ∙ ap (λ ys. old ++ flat_map f ys) (sym (one_numbered xs i x h is))
