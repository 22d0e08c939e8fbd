-- What the couples of `splits` are, and which couples of lists that ascend are among them.
use Rattle.std.proofs.Common.{◌≡◌, Bool, true, false, ◌||◌, ⊎_elim, List, [], ◌∷◌, map, refl, sym, ◌∙◌, ap, true≢false, Ordering, is_lt}
use Rattle.std.specs.List.{list_any, list_all}
use Rattle.std.proofs.Math.Bool.{or-false}
use Rattle.std.proofs.lemmas.Bool.{or_cases, and_parts, and_from}
use Rattle.pgs_base.specs.Order.{ascends}
use Rattle.pgs_syntax.specs.Join.{ways, splits}
use Rattle.pgs_syntax.proofs.Halves.{any_flat_map, swap_first}

-- each item of a list goes to the left, to the right, or to both
pub data IsSplit {X : Type 0} : List X → List X → List X → Type 0 where
  none : IsSplit [] [] []
  to_left : {x : X} {l r xs : List X} → IsSplit l r xs → IsSplit (x ∷ l) r (x ∷ xs)
  to_right : {x : X} {l r xs : List X} → IsSplit l r xs → IsSplit l (x ∷ r) (x ∷ xs)
  to_both : {x : X} {l r xs : List X} → IsSplit l r xs → IsSplit (x ∷ l) (x ∷ r) (x ∷ xs)

-- ---- the couples

pub split_from_any : {X : Type 0} (c : List X × List X → Bool) (xs : List X) → list_any c (splits xs) ≡ true →
    (l : List X) × (r : List X) × IsSplit l r xs × (c (l, r) ≡ true)
split_from_any c [] h = ([], [], none, sym (or-false (c ([], []))) ∙ h)
split_from_any {X} c (x ∷ xs) h =
    let found = split_from_any (λ (s : List X × List X). list_any c (ways x s)) xs (sym (any_flat_map c (ways x) (splits xs)) ∙ h) in
    placed found.0 found.1 found.2 found.3
  where
    placed : (l r : List X) → IsSplit l r xs → (c (x ∷ l, r) || (c (l, x ∷ r) || (c (x ∷ l, x ∷ r) || false))) ≡ true →
        (left : List X) × (right : List X) × IsSplit left right (x ∷ xs) × (c (left, right) ≡ true)
    placed l r split e =
        ⊎_elim (λ first. (x ∷ l, r, to_left split, first))
        (λ rest. ⊎_elim (λ second. (l, x ∷ r, to_right split, second))
        (λ last. (x ∷ l, x ∷ r, to_both split, sym (or-false _) ∙ last))
        (or_cases _ _ rest))
        (or_cases _ _ e)

or_second : (a b : Bool) → b ≡ true → (a || b) ≡ true
or_second true b h = refl
or_second false b h = h

or_first : (a b : Bool) → a ≡ true → (a || b) ≡ true
or_first true b h = refl
or_first false b h = absurd (true≢false (sym h))

pub any_from_split : {X : Type 0} (c : List X × List X → Bool) (l r xs : List X) → IsSplit l r xs → c (l, r) ≡ true → list_any c (splits xs) ≡ true
any_from_split c _ _ _ none h = or_first _ _ h
any_from_split {X} c _ _ _ (to_left {x} {l} {r} {xs} split) h =
    any_flat_map c (ways x) (splits xs) ∙ any_from_split (λ (s : List X × List X). list_any c (ways x s)) l r xs split (or_first _ _ h)
any_from_split {X} c _ _ _ (to_right {x} {l} {r} {xs} split) h =
    any_flat_map c (ways x) (splits xs) ∙ any_from_split (λ (s : List X × List X). list_any c (ways x s)) l r xs split (or_second _ _ (or_first _ _ h))
any_from_split {X} c _ _ _ (to_both {x} {l} {r} {xs} split) h =
    any_flat_map c (ways x) (splits xs)
    ∙ any_from_split (λ (s : List X × List X). list_any c (ways x s)) l r xs split (or_second _ _ (or_second _ _ (or_first _ _ h)))

-- ---- what two parts have together

or_assoc : (a b c : Bool) → (a || (b || c)) ≡ ((a || b) || c)
or_assoc true b c = refl
or_assoc false b c = refl

or_twice : (a b c : Bool) → (a || (b || c)) ≡ ((a || b) || (a || c))
or_twice true b c = refl
or_twice false b c = refl

pub split_any : {X : Type 0} (t : X → Bool) (l r xs : List X) → IsSplit l r xs → list_any t xs ≡ (list_any t l || list_any t r)
split_any t _ _ _ none = refl
split_any t _ _ _ (to_left {x} {l} {r} {xs} split) = ap (λ b. t x || b) (split_any t l r xs split) ∙ or_assoc (t x) _ _
split_any t _ _ _ (to_right {x} {l} {r} {xs} split) = ap (λ b. t x || b) (split_any t l r xs split) ∙ swap_first (t x) (list_any t l) _
split_any t _ _ _ (to_both {x} {l} {r} {xs} split) = ap (λ b. t x || b) (split_any t l r xs split) ∙ or_twice (t x) _ _

pub split_all : {X : Type 0} (t : X → Bool) (l r xs : List X) → IsSplit l r xs → list_all t xs ≡ true → (list_all t l ≡ true) × (list_all t r ≡ true)
split_all t _ _ _ none h = (refl, refl)
split_all t _ _ _ (to_left {x} {l} {r} {xs} split) h =
    let parts = and_parts _ _ h in let rest = split_all t l r xs split parts.1 in (and_from _ _ parts.0 rest.0, rest.1)
split_all t _ _ _ (to_right {x} {l} {r} {xs} split) h =
    let parts = and_parts _ _ h in let rest = split_all t l r xs split parts.1 in (rest.0, and_from _ _ parts.0 rest.1)
split_all t _ _ _ (to_both {x} {l} {r} {xs} split) h =
    let parts = and_parts _ _ h in let rest = split_all t l r xs split parts.1 in (and_from _ _ parts.0 rest.0, and_from _ _ parts.0 rest.1)

pub split_ascends : {K : Type 0} (cmp : K → K → Ordering) (l r xs : List K) → IsSplit l r xs → ascends cmp xs ≡ true → (ascends cmp l ≡ true) × (ascends cmp r ≡ true)
split_ascends cmp _ _ _ none h = (refl, refl)
split_ascends cmp _ _ _ (to_left {x} {l} {r} {xs} split) h =
    let parts = and_parts _ _ h in
    let rest = split_ascends cmp l r xs split parts.1 in
    (and_from _ _ (split_all (λ later. is_lt (cmp x later)) l r xs split parts.0).0 rest.0, rest.1)
split_ascends cmp _ _ _ (to_right {x} {l} {r} {xs} split) h =
    let parts = and_parts _ _ h in
    let rest = split_ascends cmp l r xs split parts.1 in
    (rest.0, and_from _ _ (split_all (λ later. is_lt (cmp x later)) l r xs split parts.0).1 rest.1)
split_ascends cmp _ _ _ (to_both {x} {l} {r} {xs} split) h =
    let parts = and_parts _ _ h in
    let rest = split_ascends cmp l r xs split parts.1 in
    let all = split_all (λ later. is_lt (cmp x later)) l r xs split parts.0 in
    (and_from _ _ all.0 rest.0, and_from _ _ all.1 rest.1)

pub split_map : {X Y : Type 0} (f : X → Y) (l r xs : List X) → IsSplit l r xs → IsSplit (map f l) (map f r) (map f xs)
split_map f _ _ _ none = none
split_map f _ _ _ (to_left {x} {l} {r} {xs} split) = to_left (split_map f l r xs split)
split_map f _ _ _ (to_right {x} {l} {r} {xs} split) = to_right (split_map f l r xs split)
split_map f _ _ _ (to_both {x} {l} {r} {xs} split) = to_both (split_map f l r xs split)
