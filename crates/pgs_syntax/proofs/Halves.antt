-- Tests of halves: it doesn't matter which half is called the first, and a half that is empty leaves the whole to the other.
use Rattle.std.proofs.Common.{◌≡◌, ℕ, Bool, true, false, ◌&&◌, ◌||◌, List, [], ◌∷◌, map, filter, flat_map, refl, sym, ◌∙◌, ap, cond}
use Rattle.std.specs.List.{list_any}
use Rattle.std.proofs.lemmas.List.Folds.{list_any-append}
use Rattle.std.proofs.Math.Bool.{or-false}
use Rattle.pgs_base.specs.declared.row.NodeRow.{NodeRow}
use Rattle.pgs_base.specs.declared.value.Value.{Value}
use Rattle.pgs_base.specs.Pair.{pair_of}
use Rattle.pgs_syntax.specs.Join.{is_empty, ways, splits, halves, is_empty_pair, Joins, joined}

-- ---- tests of lists

pub any_same : {X : Type 0} (p q : X → Bool) → ((x : X) → p x ≡ q x) → (xs : List X) → list_any p xs ≡ list_any q xs
any_same p q same [] = refl
any_same p q same (x ∷ xs) = let first = same x in let rest = any_same p q same xs in cc

pub any_map : {X Y : Type 0} (p : Y → Bool) (f : X → Y) (xs : List X) → list_any p (map f xs) ≡ list_any (λ x. p (f x)) xs
any_map p f [] = refl
any_map p f (x ∷ xs) = ap (λ rest. p (f x) || rest) (any_map p f xs)

pub any_flat_map : {X Y : Type 0} (p : Y → Bool) (f : X → List Y) (xs : List X) →
    list_any p (flat_map f xs) ≡ list_any (λ x. list_any p (f x)) xs
any_flat_map p f [] = refl
any_flat_map p f (x ∷ xs) = list_any-append p (f x) (flat_map f xs) ∙ ap (λ rest. list_any p (f x) || rest) (any_flat_map p f xs)

pub any_filter : {X : Type 0} (p q : X → Bool) (xs : List X) → list_any p (filter q xs) ≡ list_any (λ x. q x && p x) xs
any_filter p q [] = refl
any_filter {X} p q (x ∷ xs) = both (q x) ∙ ap (λ rest. (q x && p x) || rest) (any_filter p q xs)
  where
    both : (b : Bool) → list_any p (cond b (x ∷ filter q xs) (filter q xs)) ≡ ((b && p x) || list_any p (filter q xs))
    both true = refl
    both false = refl

pub any_and : {X : Type 0} (b : Bool) (p : X → Bool) (xs : List X) → list_any (λ x. b && p x) xs ≡ (b && list_any p xs)
any_and true p xs = refl
any_and false p [] = refl
any_and false p (x ∷ xs) = any_and false p xs

-- ---- splits

pub swap_first : (a b c : Bool) → (a || (b || c)) ≡ (b || (a || c))
swap_first true true c = refl
swap_first true false c = refl
swap_first false b c = refl

pub splits_swap : {X : Type 0} (c : List X × List X → Bool) (xs : List X) →
    list_any c (splits xs) ≡ list_any (λ (s : List X × List X). c (s.1, s.0)) (splits xs)
splits_swap c [] = refl
splits_swap {X} c (x ∷ xs) =
    any_flat_map c (ways x) (splits xs)
    ∙ splits_swap (λ (s : List X × List X). list_any c (ways x s)) xs
    ∙ any_same _ _ (λ (s : List X × List X). swap_first (c (x ∷ s.1, s.0)) (c (s.1, x ∷ s.0)) (c (x ∷ s.1, x ∷ s.0) || false)) (splits xs)
    ∙ sym (any_flat_map (λ (s : List X × List X). c (s.1, s.0)) (ways x) (splits xs))

-- the only couple whose second half is empty is the whole and nothing
pub splits_whole : {X : Type 0} (h : List X → Bool) (xs : List X) →
    list_any (λ (s : List X × List X). is_empty s.1 && h s.0) (splits xs) ≡ h xs
splits_whole h [] = or-false (h [])
splits_whole {X} h (x ∷ xs) =
    any_flat_map _ (ways x) (splits xs)
    ∙ any_same _ (λ (s : List X × List X). is_empty s.1 && h (x ∷ s.0)) (λ s. or-false (is_empty s.1 && h (x ∷ s.0))) (splits xs)
    ∙ splits_whole (λ left. h (x ∷ left)) xs

-- ---- halves of pairs

abbrev Names : Type 0
Names = List (List ℕ)

abbrev Entries : Type 0
Entries = List (List ℕ × Value)

pub any_halves : (c : NodeRow × NodeRow → Bool) (p : NodeRow) →
    list_any c (halves p) ≡ list_any (λ (l : Names × Names). list_any (λ (k : Entries × Entries).
    c (pair_of l.0 k.0, pair_of l.1 k.1)) (splits p.props)) (splits p.labels)
any_halves c p =
    any_flat_map c _ (splits p.labels)
    ∙ any_same _ _ (λ (l : Names × Names). any_map c (λ (k : Entries × Entries). (pair_of l.0 k.0, pair_of l.1 k.1)) (splits p.props)) (splits p.labels)

pub halves_swap : (c : NodeRow × NodeRow → Bool) (p : NodeRow) →
    list_any c (halves p) ≡ list_any (λ (s : NodeRow × NodeRow). c (s.1, s.0)) (halves p)
halves_swap c p =
    any_halves c p
    ∙ splits_swap (λ (l : Names × Names). list_any (λ (k : Entries × Entries). c (pair_of l.0 k.0, pair_of l.1 k.1)) (splits p.props)) p.labels
    ∙ any_same _ _ (λ (l : Names × Names). splits_swap (λ (k : Entries × Entries). c (pair_of l.1 k.0, pair_of l.0 k.1)) p.props) (splits p.labels)
    ∙ sym (any_halves (λ (s : NodeRow × NodeRow). c (s.1, s.0)) p)

and_assoc : (a b c : Bool) → ((a && b) && c) ≡ (a && (b && c))
and_assoc true b c = refl
and_assoc false b c = refl

pub halves_whole : (h : NodeRow → Bool) (p : NodeRow) →
    list_any (λ (s : NodeRow × NodeRow). is_empty_pair s.1 && h s.0) (halves p) ≡ h p
halves_whole h p =
    any_halves _ p
    ∙ any_same _ (λ (l : Names × Names). is_empty l.1 && h (pair_of l.0 p.props)) inner (splits p.labels)
    ∙ splits_whole (λ labels. h (pair_of labels p.props)) p.labels
  where
    inner : (l : Names × Names) → list_any (λ (k : Entries × Entries). (is_empty l.1 && is_empty k.1) && h (pair_of l.0 k.0)) (splits p.props)
        ≡ (is_empty l.1 && h (pair_of l.0 p.props))
    inner l =
        any_same _ _ (λ (k : Entries × Entries). and_assoc (is_empty l.1) (is_empty k.1) (h (pair_of l.0 k.0))) (splits p.props)
        ∙ any_and (is_empty l.1) (λ (k : Entries × Entries). is_empty k.1 && h (pair_of l.0 k.0)) (splits p.props)
        ∙ ap (λ b. is_empty l.1 && b) (splits_whole (λ props. h (pair_of l.0 props)) p.props)

-- ---- joins

-- a join as one test of couples
pub joined_any : {P : Type 0} (joins : Joins P) (f g : P → Bool) (p : P) →
    joined joins f g p ≡ list_any (λ (s : P × P). g s.1 && f s.0) (joins.halves_of p)
joined_any {P} joins f g p = any_filter (λ (s : P × P). f s.0) (λ (s : P × P). g s.1) (joins.halves_of p)

-- tests that agree make joins that agree
pub joined_same : {P : Type 0} (joins : Joins P) (f g h k : P → Bool) → ((p : P) → f p ≡ h p) → ((p : P) → g p ≡ k p) → (p : P) →
    joined joins f g p ≡ joined joins h k p
joined_same {P} joins f g h k first second p =
    joined_any joins f g p
    ∙ any_same _ (λ (s : P × P). k s.1 && h s.0) (λ (s : P × P). let a = first s.0 in let b = second s.1 in cc) (joins.halves_of p)
    ∙ sym (joined_any joins h k p)
