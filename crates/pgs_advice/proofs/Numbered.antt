-- Walks over a numbered list that keep what some items give.
use Rattle.std.proofs.Common.{◌≡◌, ℕ, ◌+◌, ◌<◌, Bool, true, false, List, [], ◌∷◌, ◌++◌, length, take, get_or, Option, Some, None, refl, sym, ◌∙◌, ap, append_assoc, arith}
use Rattle.std.specs.Prelude.{if◌then◌else◌}
use Rattle.std.specs.List.{enumerate_from, filter_map, cons_option}
use Rattle.std.specs.Option.{option_to_list}
use Rattle.std.proofs.lemmas.List.{length-take-le}
use Rattle.std.proofs.lemmas.List.Elements.{filter_map-append}
use Rattle.pgs_resolve_declared.proofs.Walks.{one_more}

pub one_last : {X : Type 0} (n : ℕ) (xs : List X) (x : X) → enumerate_from n (xs ++ x ∷ []) ≡ enumerate_from n xs ++ (n + length xs, x) ∷ []
one_last n [] x = ap (λ m. (m, x) ∷ []) (omega arith)
one_last {X} n (y ∷ ys) x =
    ap (λ (rest : List (ℕ × X)). (n, y) ∷ rest)
    (one_last (n + 1) ys x ∙ ap (λ m. enumerate_from (n + 1) ys ++ (m, x) ∷ []) (omega arith))

pub one_numbered : {X : Type 0} (xs : List X) (i : ℕ) (x : X) → i < length xs → x ≡ get_or xs i x → enumerate_from 0 (take (i + 1) xs) ≡ enumerate_from 0 (take i xs) ++ (i, x) ∷ []
one_numbered xs i x h is =
    let place : 0 + length (take i xs) ≡ i = omega (arith, length-take-le i xs (omega (arith, h))) in
    ap (enumerate_from 0) (one_more xs i x h is) ∙ one_last 0 (take i xs) x ∙ ap (λ m. enumerate_from 0 (take i xs) ++ (m, x) ∷ []) place

-- what is kept where a flag is set
module _ {X A : Type 0} (f : ℕ × X → Option A) where
  one_kept : (o : Option A) → cons_option o [] ≡ option_to_list o
  one_kept None = refl
  one_kept (Some x) = refl

  by_flag : (b : Bool) (a : A) → option_to_list (if b then Some a else None) ≡ (if b then a ∷ [] else [])
  by_flag true a = refl
  by_flag false a = refl

  pub more_flagged : (old : List A) (xs : List X) (i : ℕ) (x : X) (mid new : List A) (flag : Bool) (a : A) → i < length xs → x ≡ get_or xs i x →
      mid ≡ old ++ filter_map f (enumerate_from 0 (take i xs)) → f (i, x) ≡ (if flag then Some a else None) → new ≡ mid ++ (if flag then a ∷ [] else []) →
      new ≡ old ++ filter_map f (enumerate_from 0 (take (i + 1) xs))
  more_flagged old xs i x mid new flag a h is before gives after =
      let one : (if flag then a ∷ [] else []) ≡ filter_map f ((i, x) ∷ []) = sym (by_flag flag a) ∙ ap option_to_list (sym gives) ∙ sym (one_kept (f (i, x))) in
      after ∙ ap (λ ys. ys ++ (if flag then a ∷ [] else [])) before ∙ append_assoc old (filter_map f (enumerate_from 0 (take i xs))) (if flag then a ∷ [] else [])
      ∙ ap (λ ys. old ++ ys)
      (ap (λ ys. filter_map f (enumerate_from 0 (take i xs)) ++ ys) one ∙ sym (filter_map-append f (enumerate_from 0 (take i xs)) ((i, x) ∷ []))
      ∙ ap (filter_map f) (sym (one_numbered xs i x h is)))
