-- Lists by the numbers from 1 on, and rows that ascend by them.
use Rattle.std.proofs.Common.{◌≡◌, ℕ, zero, suc, ◌+◌, ◌≤◌, ◌<◌, ◌==◌, ◌||◌, Bool, true, false, cond, nat_le, List, [], ◌∷◌, ◌++◌, length, map, filter, Option, Some, None, Ordering, Greater, is_eq, refl, sym, ap, subst, ◌∙◌, arith}
use Rattle.std.specs.Prelude.{nat_lt, filter_map, if◌then◌else◌}
use Rattle.std.specs.BTreeMap.{is_at, insert_entry}
use Rattle.std.specs.Cmp.{nat_cmp_is, unsigned_tied}
use Rattle.std.specs.List.{list_any, flat_map}
use Rattle.std.specs.Map.{lookup}
use Rattle.std.specs.Ordering.{nat_cmp}
use Rattle.std.proofs.lemmas.Bool.Decides.{nat_tests}
use Rattle.std.proofs.lemmas.List.{map-append}
use Rattle.std.proofs.lemmas.List.Elements.{filter-append}

-- ---- the numbers from 1 to n, and those from 2

unfoldable pub numbers : ℕ → List ℕ
numbers zero = []
numbers (suc n) = numbers n ++ suc n ∷ []

unfoldable pub others : ℕ → List ℕ
others zero = []
others (suc n) = others n ++ (if nat_lt (suc n) 2 then [] else suc n ∷ [])

abbrev pub Each : (ℕ → Type 0) → List ℕ → Type 0
Each P [] = Unit {0}
Each P (x ∷ xs) = P x × Each P xs

pub each_on : (P : ℕ → Type 0) (xs ys : List ℕ) → Each P xs → Each P ys → Each P (xs ++ ys)
each_on P [] ys p q = q
each_on P (x ∷ xs) ys p q = (p.0, each_on P xs ys p.1 q)

pub each_so : (P Q : ℕ → Type 0) (xs : List ℕ) → ((i : ℕ) → P i → Q i) → Each P xs → Each Q xs
each_so P Q [] f p = tt
each_so P Q (x ∷ xs) f p = (f x p.0, each_so P Q xs f p.1)

abbrev pub IsUpTo : ℕ → ℕ → Type 0
IsUpTo n i = (1 ≤ i) × (i ≤ n)

abbrev pub IsOther : ℕ → ℕ → Type 0
IsOther n i = (2 ≤ i) × (i ≤ n)

pub numbers_up_to : (n : ℕ) → Each (IsUpTo n) (numbers n)
unfolding numbers
numbers_up_to zero = tt
numbers_up_to (suc n) =
    each_on (IsUpTo (suc n)) (numbers n) (suc n ∷ []) (each_so (IsUpTo n) (IsUpTo (suc n)) (numbers n) (λ i p. (p.0, let h = p.1 in omega arith)) (numbers_up_to n))
    ((omega arith, omega arith), tt)

others_last : (n : ℕ) (first : Bool) → nat_lt (suc n) 2 ≡ first → Each (IsOther (suc n)) (cond first [] (suc n ∷ []))
others_last n true is = tt
others_last n false is = ((grind (arith, nat_tests, is), omega arith), tt)

pub others_up_to : (n : ℕ) → Each (IsOther n) (others n)
unfolding others
others_up_to zero = tt
others_up_to (suc n) =
    each_on (IsOther (suc n)) (others n) _ (each_so (IsOther n) (IsOther (suc n)) (others n) (λ i p. (p.0, let h = p.1 in omega arith)) (others_up_to n))
    (others_last n (nat_lt (suc n) 2) refl)

-- ---- lists by numbers

module _ {X : Type 0} (h : ℕ → X) where
  pub none_of : {Y : Type 0} (f : X → Option Y) (xs : List ℕ) → Each (λ i. f (h i) ≡ None) xs → filter_map f (map h xs) ≡ []
  none_of f [] each = refl
  none_of f (x ∷ xs) each = rw each.0 (none_of f xs each.1)

  pub kept_all : (p : X → Bool) (xs : List ℕ) → Each (λ i. p (h i) ≡ true) xs → filter p (map h xs) ≡ map h xs
  kept_all p [] each = refl
  kept_all p (x ∷ xs) each = rw each.0 (ap (λ ys. h x ∷ ys) (kept_all p xs each.1))

  pub kept_none : (p : X → Bool) (xs : List ℕ) → Each (λ i. p (h i) ≡ false) xs → filter p (map h xs) ≡ []
  kept_none p [] each = refl
  kept_none p (x ∷ xs) each = rw each.0 (kept_none p xs each.1)

  pub none_kept : {Y : Type 0} (f : X → Option Y) (q : X → Bool) (xs : List ℕ) → Each (λ i. q (h i) ≡ true → f (h i) ≡ None) xs → filter_map f (filter q (map h xs)) ≡ []
  none_kept f q [] each = refl
  none_kept {Y} f q (x ∷ xs) each = by (q (h x)) refl (none_kept f q xs each.1)
    where
      by : (b : Bool) → q (h x) ≡ b → filter_map f (filter q (map h xs)) ≡ []
          → filter_map f (cond b (h x ∷ filter q (map h xs)) (filter q (map h xs))) ≡ []
      by true is rest = rw (each.0 is) rest
      by false is rest = rest

  pub map_map : {Y : Type 0} (f : X → Y) (xs : List ℕ) → map f (map h xs) ≡ map (λ i. f (h i)) xs
  map_map f [] = refl
  map_map f (x ∷ xs) = ap (λ ys. f (h x) ∷ ys) (map_map f xs)

pub flat_ones : {X Y : Type 0} (f : X → Y) (xs : List X) → flat_map (λ x. f x ∷ []) xs ≡ map f xs
flat_ones f [] = refl
flat_ones f (x ∷ xs) = ap (λ ys. f x ∷ ys) (flat_ones f xs)

pub length_numbers : (n : ℕ) → length (numbers n) ≡ n
unfolding numbers
length_numbers zero = refl
length_numbers (suc n) = length-more (numbers n) (suc n) ∙ ap suc (length_numbers n)
  where
    length-more : (xs : List ℕ) (x : ℕ) → length (xs ++ x ∷ []) ≡ suc (length xs)
    length-more [] x = refl
    length-more (y ∷ xs) x = ap suc (length-more xs x)

pub any_kept : {X : Type 0} (p : X → Bool) (xs ys : List X) (y : X) → filter p xs ≡ y ∷ ys → list_any p xs ≡ true
any_kept p [] ys y is = cc
any_kept p (x ∷ xs) ys y is = by (p x) (any_kept p xs ys y) is
  where
    by : (b : Bool) → (filter p xs ≡ y ∷ ys → list_any p xs ≡ true) → cond b (x ∷ filter p xs) (filter p xs) ≡ y ∷ ys → (b || list_any p xs) ≡ true
    by true rest e = refl
    by false rest e = rest e

-- one of the numbers is picked
module _ {X : Type 0} (h : ℕ → X) (p : X → Bool) (i : ℕ) (same : p (h i) ≡ true) (other : (j : ℕ) → (i ≡ j → ⊥) → p (h j) ≡ false) where
  pub picked : (n : ℕ) → IsUpTo n i → filter p (map h (numbers n)) ≡ h i ∷ []
  unfolding numbers
  picked zero up = let low = up.0 in let high = up.1 in absurd (omega arith)
  picked (suc n) up =
      ap (filter p) (map-append h (numbers n) (suc n ∷ [])) ∙ filter-append p (map h (numbers n)) (h (suc n) ∷ []) ∙ at (nat_le i n) (picked n) refl
    where
      at : (b : Bool) → (IsUpTo n i → filter p (map h (numbers n)) ≡ h i ∷ []) → nat_le i n ≡ b
          → filter p (map h (numbers n)) ++ filter p (h (suc n) ∷ []) ≡ h i ∷ []
      at true front is =
          let within : i ≤ n = grind (arith, nat_tests, is) in
          let gone : p (h (suc n)) ≡ false = other (suc n) (λ e. absurd (omega arith)) in
          ap (λ xs. xs ++ filter p (h (suc n) ∷ [])) (front (up.0, within)) ∙ ap (λ b. h i ∷ cond b (h (suc n) ∷ []) []) gone
      at false front is =
          let high = up.1 in
          let last : i ≡ suc n = grind (arith, nat_tests, is) in
          let before : Each (λ j. p (h j) ≡ false) (numbers n) =
          each_so (IsUpTo n) (λ j. p (h j) ≡ false) (numbers n) (λ j q. let le = q.1 in other j (λ e. absurd (omega arith))) (numbers_up_to n) in
          ap (λ xs. xs ++ filter p (h (suc n) ∷ [])) (kept_none h p (numbers n) before)
          ∙ subst (λ m. filter p (h m ∷ []) ≡ h i ∷ []) last (ap (λ b. cond b (h i ∷ []) []) same)

-- ---- numbers compared

pub same_number : (i : ℕ) → is_eq (nat_cmp i i) ≡ true
same_number i = unsigned_tied i i ∙ (let h : (i == i) ≡ true = grind (arith, nat_tests) in h)

pub other_number : (i j : ℕ) → (i ≡ j → ⊥) → is_eq (nat_cmp i j) ≡ false
other_number i j other = unsigned_tied i j ∙ (let h : (i == j) ≡ false = grind (arith, nat_tests, other) in h)

greater_number : (i j : ℕ) → j < i → nat_cmp i j ≡ Greater
greater_number i j below = sym (nat_cmp_is i j Greater below)

-- ---- rows by ascending number

lookup_front : {K V : Type 0} (test : K → Bool) (xs ys : List (K × V)) (v : V) → lookup test xs ≡ Some v → lookup test (xs ++ ys) ≡ Some v
lookup_front test [] ys v is = cc
lookup_front {V = V} test (x ∷ xs) ys v is = by (test x.0) (lookup_front test xs ys v) is
  where
    by : (b : Bool) → (lookup test xs ≡ Some v → lookup test (xs ++ ys) ≡ Some v) → cond b (Some x.1) (lookup test xs) ≡ Some v
        → cond b (Some x.1) (lookup test (xs ++ ys)) ≡ Some v
    by true rest e = e
    by false rest e = rest e

lookup_behind : {K V : Type 0} (test : K → Bool) (xs ys : List (K × V)) → lookup test xs ≡ None → lookup test (xs ++ ys) ≡ lookup test ys
lookup_behind test [] ys is = refl
lookup_behind {V = V} test (x ∷ xs) ys is = by (test x.0) (lookup_behind test xs ys) is
  where
    by : (b : Bool) → (lookup test xs ≡ None → lookup test (xs ++ ys) ≡ lookup test ys) → cond b (Some x.1) (lookup test xs) ≡ None
        → cond b (Some x.1) (lookup test (xs ++ ys)) ≡ lookup test ys
    by true rest e = cc
    by false rest e = rest e

module _ {K V : Type 0} (cmp : K → K → Ordering) (key : ℕ → K) (row : ℕ → V) (by : (i j : ℕ) → cmp (key i) (key j) ≡ nat_cmp i j) where
  abbrev pub entry : ℕ → K × V
  entry i = (key i, row i)

  pub absent : (i : ℕ) (xs : List ℕ) → Each (λ j. j < i) xs → lookup (is_at (cmp (key i))) (map entry xs) ≡ None
  absent i [] each = refl
  absent i (x ∷ xs) each =
      let other : is_at (cmp (key i)) (key x) ≡ false = ap is_eq (by i x) ∙ other_number i x (λ e. let below = each.0 in absurd (omega arith)) in
      rw other (absent i xs each.1)

  here : (i : ℕ) → is_at (cmp (key i)) (key i) ≡ true
  here i = ap is_eq (by i i) ∙ same_number i

  pub found : (n i : ℕ) → IsUpTo n i → lookup (is_at (cmp (key i))) (map entry (numbers n)) ≡ Some (row i)
  unfolding numbers
  found zero i p = let low = p.0 in let high = p.1 in absurd (omega arith)
  found (suc n) i p =
      ap (lookup (is_at (cmp (key i)))) (map-append entry (numbers n) (suc n ∷ [])) ∙ at (nat_le i n) (found n i) refl
    where
      at : (b : Bool) → (IsUpTo n i → lookup (is_at (cmp (key i))) (map entry (numbers n)) ≡ Some (row i)) → nat_le i n ≡ b
          → lookup (is_at (cmp (key i))) (map entry (numbers n) ++ entry (suc n) ∷ []) ≡ Some (row i)
      at true front is = lookup_front _ (map entry (numbers n)) _ (row i) (front (p.0, grind (arith, nat_tests, is)))
      at false front is =
          let high = p.1 in
          let last : i ≡ suc n = grind (arith, nat_tests, is) in
          let below : Each (λ j. j < i) (numbers n) = each_so (IsUpTo n) (λ j. j < i) (numbers n) (λ j q. let h = q.1 in omega arith) (numbers_up_to n) in
          lookup_behind _ (map entry (numbers n)) _ (absent i (numbers n) below)
          ∙ subst (λ m. lookup (is_at (cmp (key i))) (entry m ∷ []) ≡ Some (row i)) last (ap (λ b. cond b (Some (row i)) None) (here i))

  pub put_last : (i : ℕ) (xs : List ℕ) → Each (λ j. j < i) xs → insert_entry cmp (map entry xs) (key i) (row i) ≡ map entry xs ++ entry i ∷ []
  put_last i [] each = refl
  put_last i (x ∷ xs) each =
      let greater : cmp (key i) (key x) ≡ Greater = by i x ∙ greater_number i x each.0 in
      rw greater (ap (λ es. entry x ∷ es) (put_last i xs each.1))
