-- Runs of bytes that pass a test, and lists of which all do.
use Rattle.std.proofs.Common.{◌≡◌, sym, ℕ, zero, suc, ◌+◌, ◌≤◌, Bool, true, false, cond, List, [], ◌∷◌, ◌++◌, length, take, drop, refl, arith, subst, inl, inr}
use Rattle.std.specs.Prelude.{bytes_eq, nat_eq}
use Rattle.std.specs.List.{list_all, list_any, prefix_len, AllByRecursion}
use Rattle.std.proofs.lemmas.Bool.{and_parts, and_from, eqb-true, or_cases}
use Rattle.pgs_lexer.specs.Form.{begins_with}

pub all_front : (p : ℕ → Bool) (xs ys : List ℕ) → list_all p xs ≡ true → length xs ≤ prefix_len p (xs ++ ys)
all_front p [] ys e = omega arith
all_front p (x ∷ xs) ys e = let q = and_parts (p x) (list_all p xs) e in rw q.0 (omega (arith, all_front p xs ys q.1))

pub run_at : (p : ℕ → Bool) (xs ys : List ℕ) → list_all p xs ≡ true → begins_with p ys ≡ false → prefix_len p (xs ++ ys) ≡ length xs
run_at p [] [] e f = refl
run_at p [] (y ∷ ys) e f = rw f refl
run_at p (x ∷ xs) ys e f = let q = and_parts (p x) (list_all p xs) e in rw q.0 (omega (arith, run_at p xs ys q.1 f))

passes_more : (p : ℕ → Bool) (x : ℕ) (xs : List ℕ) (n : ℕ) (b : Bool) → p x ≡ b → list_all p (take n xs) ≡ true → list_all p (take (cond b (1 + n) 0) (x ∷ xs)) ≡ true
passes_more p x xs n true e all = let one : 1 + n ≡ suc n = omega arith in rw one (and_from (p x) (list_all p (take n xs)) e all)
passes_more p x xs n false e all = refl

pub run_passes : (p : ℕ → Bool) (xs : List ℕ) → list_all p (take (prefix_len p xs) xs) ≡ true
run_passes p [] = refl
run_passes p (x ∷ xs) = passes_more p x xs (prefix_len p xs) (p x) refl (run_passes p xs)

stops_more : (p : ℕ → Bool) (x : ℕ) (xs : List ℕ) (n : ℕ) (b : Bool) → p x ≡ b → begins_with p (drop n xs) ≡ false → begins_with p (drop (cond b (1 + n) 0) (x ∷ xs)) ≡ false
stops_more p x xs n true e stops = let one : 1 + n ≡ suc n = omega arith in rw one stops
stops_more p x xs n false e stops = e

pub run_stops : (p : ℕ → Bool) (xs : List ℕ) → begins_with p (drop (prefix_len p xs) xs) ≡ false
run_stops p [] = refl
run_stops p (x ∷ xs) = stops_more p x xs (prefix_len p xs) (p x) refl (run_stops p xs)

pub all_take : (p : ℕ → Bool) (n : ℕ) (xs : List ℕ) → list_all p xs ≡ true → list_all p (take n xs) ≡ true
all_take p zero xs e = refl
all_take p (suc n) [] e = refl
all_take p (suc n) (x ∷ xs) e = let q = and_parts (p x) (list_all p xs) e in and_from (p x) _ q.0 (all_take p n xs q.1)

pub all_parts : (p : ℕ → Bool) (xs ys : List ℕ) → list_all p (xs ++ ys) ≡ true → (list_all p xs ≡ true) × (list_all p ys ≡ true)
all_parts p [] ys e = (refl, e)
all_parts p (x ∷ xs) ys e =
    let q = and_parts (p x) (list_all p (xs ++ ys)) e in
    let r = all_parts p xs ys q.1 in
    (and_from (p x) (list_all p xs) q.0 r.0, r.1)

pub all_both : (p : ℕ → Bool) (xs ys : List ℕ) → list_all p xs ≡ true → list_all p ys ≡ true → list_all p (xs ++ ys) ≡ true
all_both p [] ys e f = f
all_both p (x ∷ xs) ys e f = let q = and_parts (p x) (list_all p xs) e in and_from (p x) (list_all p (xs ++ ys)) q.0 (all_both p xs ys q.1 f)

pub same_bytes : (xs ys : List ℕ) → bytes_eq xs ys ≡ true → xs ≡ ys
same_bytes [] [] e = refl
same_bytes [] (y ∷ ys) e = cc
same_bytes (x ∷ xs) [] e = cc
same_bytes (x ∷ xs) (y ∷ ys) e =
    let q = and_parts (nat_eq x y) (bytes_eq xs ys) e in
    let same = eqb-true x y q.0 in
    let rest = same_bytes xs ys q.1 in
    cc

-- what each member of a list has, one that is a member has
pub among_bytes : (P : List ℕ → Type 0) (front : List ℕ) (xs : List (List ℕ)) → list_any (bytes_eq front) xs ≡ true → AllByRecursion P xs → P front
among_bytes P front [] e all = cc
among_bytes P front (x ∷ xs) e all = elim (or_cases (bytes_eq front x) (list_any (bytes_eq front) xs) e) [
  | inl here ↦ subst P (sym (same_bytes front x here)) all.0
  | inr later ↦ among_bytes P front xs later all.1
]

pub among_numbers : (P : ℕ → Type 0) (n : ℕ) (xs : List ℕ) → list_any (λ x. nat_eq n x) xs ≡ true → AllByRecursion P xs → P n
among_numbers P n [] e all = cc
among_numbers P n (x ∷ xs) e all = elim (or_cases (nat_eq n x) (list_any (λ y. nat_eq n y) xs) e) [
  | inl here ↦ subst P (sym (eqb-true n x here)) all.0
  | inr later ↦ among_numbers P n xs later all.1
]
