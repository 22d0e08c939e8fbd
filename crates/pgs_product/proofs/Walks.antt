-- What some of a list have, while the list is made item by item.
use Rattle.std.proofs.Common.{◌≡◌, ℕ, ◌+◌, ◌<◌, ◌≤◌, Bool, true, false, ◌||◌, List, [], ◌∷◌, ◌++◌, length, take, drop, map, get_or, refl, sym, ◌∙◌, ap, arith}
use Rattle.std.specs.List.{list_any}
use Rattle.std.proofs.Math.Bool.{or-false}
use Rattle.std.proofs.lemmas.List.{take_more, map-append, take-append-drop}
use Rattle.std.proofs.lemmas.List.Folds.{list_any-append}

or_assoc : (a b c : Bool) → ((a || b) || c) ≡ (a || (b || c))
or_assoc true b c = refl
or_assoc false b c = refl

any_push : {S : Type 0} (q : S → Bool) (xs : List S) (x : S) → list_any q (xs ++ x ∷ []) ≡ (list_any q xs || q x)
any_push q xs x = list_any-append q xs (x ∷ []) ∙ ap (λ b. list_any q xs || b) (or-false (q x))

any_more : {S : Type 0} (q : S → Bool) (xs : List S) (i : ℕ) (x : S) → i < length xs → x ≡ get_or xs i x → list_any q (take (i + 1) xs) ≡ (list_any q (take i xs) || q x)
any_more q xs i x lt is =
    ap (list_any q) (take_more xs i x lt ∙ ap (λ y. take i xs ++ y ∷ []) (sym is)) ∙ any_push q (take i xs) x

-- one item more, of which the same is asked
pub item_more : {S R : Type 0} (has : S → Bool) (q : R → Bool) (start : Bool) (xs : List R) (i : ℕ) (x : R) (old new : List S) (item : S) →
    i < length xs → x ≡ get_or xs i x → list_any has old ≡ (start || list_any q (take i xs)) → has item ≡ q x → new ≡ old ++ item ∷ [] →
    list_any has new ≡ (start || list_any q (take (i + 1) xs))
item_more has q start xs i x old new item lt is before same pushed =
    ap (list_any has) pushed ∙ any_push has old item ∙ ap (λ b. b || has item) before ∙ ap (λ b. (start || list_any q (take i xs)) || b) same
    ∙ or_assoc start (list_any q (take i xs)) (q x) ∙ ap (λ b. start || b) (sym (any_more q xs i x lt is))

-- several items more, of which some have what is asked of one
pub row_more : {S R : Type 0} (has : S → Bool) (q : R → Bool) (xs : List R) (i : ℕ) (x : R) (old new : List S) →
    i < length xs → x ≡ get_or xs i x → list_any has old ≡ list_any q (take i xs) → list_any has new ≡ (list_any has old || q x) →
    list_any has new ≡ list_any q (take (i + 1) xs)
row_more has q xs i x old new lt is before pushed = pushed ∙ ap (λ b. b || q x) before ∙ sym (any_more q xs i x lt is)

-- a list of no item, a list of one, and a list cut in two
pub no_items : {X : Type 0} (xs : List X) → length xs < 1 → xs ≡ []
no_items [] low = refl
no_items (x ∷ xs) low = absurd (omega arith)

pub one_item : {X : Type 0} (xs : List X) (x : X) → 1 ≤ length xs → length xs < 2 → x ≡ get_or xs 0 x → xs ≡ x ∷ []
one_item [] x low high is = absurd (omega arith)
one_item (y ∷ []) x low high is = ap (λ z. z ∷ []) (sym is)
one_item (y ∷ z ∷ zs) x low high is = absurd (omega arith)

pub map_cut : {X Y : Type 0} (f : X → Y) (n : ℕ) (xs front back : List X) → front ≡ take n xs → back ≡ drop n xs → map f front ++ map f back ≡ map f xs
map_cut f n xs front back a b =
    sym (map-append f front back) ∙ ap (λ ys. map f (ys ++ back)) a ∙ ap (λ ys. map f (take n xs ++ ys)) b ∙ ap (map f) (take-append-drop n xs)
