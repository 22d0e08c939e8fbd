-- Two lists of names as one: it has the names of both, and ascends where they do.
use Rattle.std.proofs.Common.{◌≡◌, ℕ, Bool, true, false, ◌||◌, List, [], ◌∷◌, refl, sym, ◌∙◌, ap, true≢false, Ordering, Less, Equal, Greater, is_lt, is_eq}
use Rattle.std.specs.Ordering.{nat_cmp, match_ordering, ordering_reverse}
use Rattle.std.specs.Cmp.Lexicographic.{slice_cmp, nat_list_cmp_total}
use Rattle.std.specs.List.{list_all}
use Rattle.std.proofs.lemmas.Bool.{and_parts, and_from}
use Rattle.pgs_base.specs.Order.{ascends}
use Rattle.pgs_base.specs.Pair.{same_name, has_name}
use Rattle.pgs_syntax.proofs.Halves.{swap_first}
use Rattle.pgs_syntax.proofs.Parts.{one_name}
use Rattle.pgs_product.specs.Merged.{united_with, united}

abbrev Names : Type 0
Names = List (List ℕ)

abbrev pub name_cmp : List ℕ → List ℕ → Ordering
name_cmp = slice_cmp nat_cmp

-- ---- orders

pub less : (o : Ordering) → is_lt o ≡ true → o ≡ Less
less Less e = refl
less Equal e = absurd (true≢false (sym e))
less Greater e = absurd (true≢false (sym e))

pub same_of : (x y : List ℕ) → name_cmp x y ≡ Equal → x ≡ y
same_of x y e = one_name x y (ap is_eq e)

pub after : (x y : List ℕ) → name_cmp x y ≡ Greater → name_cmp y x ≡ Less
after x y e = nat_list_cmp_total.antisymm y x ∙ ap ordering_reverse e

-- a name before one that is before all of some
pub before_all : (k x : List ℕ) (xs : Names) → name_cmp k x ≡ Less → list_all (λ y. is_lt (name_cmp x y)) xs ≡ true → list_all (λ y. is_lt (name_cmp k y)) xs ≡ true
before_all k x [] e h = refl
before_all k x (y ∷ ys) e h =
    let parts = and_parts _ _ h in
    and_from _ _ (ap is_lt (nat_list_cmp_total.trans k x y e (less (name_cmp x y) parts.0))) (before_all k x ys e parts.1)

-- ---- membership

or_assoc : (a b c : Bool) → (a || (b || c)) ≡ ((a || b) || c)
or_assoc true b c = refl
or_assoc false b c = refl

or_twice : (a b c : Bool) → (a || (b || c)) ≡ ((a || b) || (a || c))
or_twice true b c = refl
or_twice false b c = refl

module _ (l : List ℕ) where
  has_with : (x : List ℕ) (xs : Names) (rest : Names → Names) → ((ys : Names) → has_name l (rest ys) ≡ (has_name l xs || has_name l ys)) → (ys : Names) →
      has_name l (united_with x rest ys) ≡ (has_name l (x ∷ xs) || has_name l ys)
  has_with x xs rest h [] = ap (λ b. same_name l x || b) (h []) ∙ or_assoc (same_name l x) (has_name l xs) false
  has_with x xs rest h (y ∷ ys) = by (name_cmp x y) refl (has_with x xs rest h ys)
    where
      by : (o : Ordering) → name_cmp x y ≡ o → has_name l (united_with x rest ys) ≡ (has_name l (x ∷ xs) || has_name l ys) →
          has_name l (match_ordering o (x ∷ rest (y ∷ ys)) (x ∷ rest ys) (y ∷ united_with x rest ys)) ≡ (has_name l (x ∷ xs) || has_name l (y ∷ ys))
      by Less e later = ap (λ b. same_name l x || b) (h (y ∷ ys)) ∙ or_assoc (same_name l x) (has_name l xs) (has_name l (y ∷ ys))
      by Equal e later =
          ap (λ b. same_name l x || b) (h ys) ∙ or_twice (same_name l x) (has_name l xs) (has_name l ys)
          ∙ ap (λ z. (same_name l x || has_name l xs) || (same_name l z || has_name l ys)) (same_of x y e)
      by Greater e later = ap (λ b. same_name l y || b) later ∙ swap_first (same_name l y) (has_name l (x ∷ xs)) (has_name l ys)

  pub has_united : (xs ys : Names) → has_name l (united xs ys) ≡ (has_name l xs || has_name l ys)
  has_united [] ys = refl
  has_united (x ∷ xs) ys = has_with x xs (united xs) (has_united xs) ys

-- ---- order

all_with : (p : List ℕ → Bool) (x : List ℕ) (rest : Names → Names) → p x ≡ true → ((ys : Names) → list_all p ys ≡ true → list_all p (rest ys) ≡ true) →
    (ys : Names) → list_all p ys ≡ true → list_all p (united_with x rest ys) ≡ true
all_with p x rest own h [] all = and_from _ _ own (h [] refl)
all_with p x rest own h (y ∷ ys) all = by (name_cmp x y) (all_with p x rest own h ys (and_parts _ _ all).1)
  where
    by : (o : Ordering) → list_all p (united_with x rest ys) ≡ true → list_all p (match_ordering o (x ∷ rest (y ∷ ys)) (x ∷ rest ys) (y ∷ united_with x rest ys)) ≡ true
    by Less later = and_from _ _ own (h (y ∷ ys) all)
    by Equal later = and_from _ _ own (h ys (and_parts _ _ all).1)
    by Greater later = and_from _ _ (and_parts _ _ all).0 later

all_united : (p : List ℕ → Bool) (xs ys : Names) → list_all p xs ≡ true → list_all p ys ≡ true → list_all p (united xs ys) ≡ true
all_united p [] ys first second = second
all_united p (x ∷ xs) ys first second =
    let parts = and_parts _ _ first in all_with p x (united xs) parts.0 (λ zs all. all_united p xs zs parts.1 all) ys second

ascends_with : (x : List ℕ) (xs ys : Names) → ascends name_cmp (x ∷ xs) ≡ true → ((zs : Names) → ascends name_cmp zs ≡ true → ascends name_cmp (united xs zs) ≡ true) →
    ascends name_cmp ys ≡ true → ascends name_cmp (united_with x (united xs) ys) ≡ true
ascends_with x xs [] first h second =
    and_from _ _ (all_united (λ z. is_lt (name_cmp x z)) xs [] (and_parts _ _ first).0 refl) (h [] refl)
ascends_with x xs (y ∷ ys) first h second = by (name_cmp x y) refl (ascends_with x xs ys first h (and_parts _ _ second).1)
  where
    by : (o : Ordering) → name_cmp x y ≡ o → ascends name_cmp (united_with x (united xs) ys) ≡ true →
        ascends name_cmp (match_ordering o (x ∷ united xs (y ∷ ys)) (x ∷ united xs ys) (y ∷ united_with x (united xs) ys)) ≡ true
    by Less e later =
        let below = and_from _ _ (ap is_lt e) (before_all x y ys e (and_parts _ _ second).0) in
        and_from _ _ (all_united (λ z. is_lt (name_cmp x z)) xs (y ∷ ys) (and_parts _ _ first).0 below) (h (y ∷ ys) second)
    by Equal e later =
        let below : list_all (λ z. is_lt (name_cmp x z)) ys ≡ true =
        ap (λ k. list_all (λ z. is_lt (name_cmp k z)) ys) (same_of x y e) ∙ (and_parts _ _ second).0 in
        and_from _ _ (all_united (λ z. is_lt (name_cmp x z)) xs ys (and_parts _ _ first).0 below) (h ys (and_parts _ _ second).1)
    by Greater e later =
        let own = after x y e in
        let above = and_from _ _ (ap is_lt own) (before_all y x xs own (and_parts _ _ first).0) in
        and_from _ _ (all_united (λ z. is_lt (name_cmp y z)) (x ∷ xs) ys above (and_parts _ _ second).0) later

pub ascends_united : (xs ys : Names) → ascends name_cmp xs ≡ true → ascends name_cmp ys ≡ true → ascends name_cmp (united xs ys) ≡ true
ascends_united [] ys first second = second
ascends_united (x ∷ xs) ys first second = ascends_with x xs ys first (λ zs all. ascends_united xs zs (and_parts _ _ first).1 all) second
