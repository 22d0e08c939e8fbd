-- A part at its number.
use Rattle.std.proofs.Common.{◌≡◌, ℕ, zero, suc, ◌<◌, Bool, true, List, [], ◌∷◌, length, get_or, Some, sym, ap, subst, arith}
use Rattle.std.specs.List.{list_all, slice_get}
use Rattle.std.proofs.lemmas.Bool.{and_parts}

module _ {X : Type 0} where
  pub all_at : (test : X → Bool) (xs : List X) (i : ℕ) (x : X) → i < length xs → x ≡ get_or xs i x → list_all test xs ≡ true → test x ≡ true
  all_at test [] i x low is h = absurd (omega arith)
  all_at test (y ∷ ys) zero x low is h = subst (λ z. test z ≡ true) (sym is) (and_parts (test y) (list_all test ys) h).0
  all_at test (y ∷ ys) (suc i) x low is h = all_at test ys i x (omega arith) is (and_parts (test y) (list_all test ys) h).1

  pub read_at : (xs : List X) (i : ℕ) (x : X) → i < length xs → x ≡ get_or xs i x → slice_get xs i ≡ Some x
  read_at [] i x low is = absurd (omega arith)
  read_at (y ∷ ys) zero x low is = ap Some (sym is)
  read_at (y ∷ ys) (suc i) x low is = read_at ys i x (omega arith) is
