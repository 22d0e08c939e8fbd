-- The variables of places, a place at a time.
use Rattle.std.proofs.Common.{◌≡◌, ℕ, suc, ◌+◌, ◌<◌, Bool, true, false, cond, List, [], ◌∷◌, ◌++◌, length, map, take, drop, get_or, Option, Some, None, refl, sym, ◌∙◌, ap, arith, add-one}
use Rattle.std.specs.List.{find, fold}
use Rattle.std.specs.Option.{option_to_list, option_map}
use Rattle.std.proofs.lemmas.List.{map-append, length-map}
use Rattle.std.proofs.Math.Seq.{drop-cons}
use Rattle.pgs_resolve_keys.specs.declared.places.PlaceRef.{PlaceRef}
use Rattle.pgs_resolve_keys.specs.Patterns.{Place, Variable, called, nameless, same_variable, is_same, variable_at, variables_at, with_variable}
use Rattle.pgs_resolve_keys.specs.Placed.{placed}
use Rattle.pgs_resolve_declared.proofs.Same.{one_name}
use Rattle.pgs_resolve_declared.proofs.Walks.{one_more}

-- the places that are left
rest : (places : List PlaceRef) (i : ℕ) (place : PlaceRef) → i < length places → place ≡ get_or places i place → drop i places ≡ place ∷ drop (i + 1) places
rest places i place lt is = drop-cons places i place lt ∙ ap (λ p. p ∷ drop (suc i) places) (sym is) ∙ ap (λ n. place ∷ drop n places) (sym (add-one i))

abbrev kind : List ℕ → ℕ → List PlaceRef → Option (Variable × Bool)
kind x number places = find (is_same (called x)) (variables_at number (map placed places))

pub kind_later : (x : List ℕ) (places : List PlaceRef) (i : ℕ) (place : PlaceRef) → i < length places → place ≡ get_or places i place →
    same_variable (called x) (variable_at i place.at.now) ≡ false → kind x i (drop i places) ≡ kind x (i + 1) (drop (i + 1) places)
kind_later x places i place lt is other =
    ap (kind x i) (rest places i place lt is)
    ∙ ap (λ b. cond b (Some (variable_at i place.at.now, place.is_edge)) (kind x (i + 1) (drop (i + 1) places))) other

pub kind_here : (x : List ℕ) (places : List PlaceRef) (i : ℕ) (place : PlaceRef) → i < length places → place ≡ get_or places i place →
    same_variable (called x) (variable_at i place.at.now) ≡ true → kind x i (drop i places) ≡ Some (variable_at i place.at.now, place.is_edge)
kind_here x places i place lt is here =
    ap (kind x i) (rest places i place lt is)
    ∙ ap (λ b. cond b (Some (variable_at i place.at.now, place.is_edge)) (kind x (i + 1) (drop (i + 1) places))) here

-- a variable that is found by a name is of that name
found_is : (x : List ℕ) (variables : List (Variable × Bool)) → find (is_same (called x)) variables
    ≡ option_map (λ (v : Variable × Bool). (called x, v.1)) (find (is_same (called x)) variables)
found_is x [] = refl
found_is x ((called name, is_edge) ∷ variables) =
    by (is_same (called x) (called name, is_edge)) refl (found_is x variables)
  where
    by : (b : Bool) → is_same (called x) (called name, is_edge) ≡ b →
        find (is_same (called x)) variables ≡ option_map (λ (v : Variable × Bool). (called x, v.1)) (find (is_same (called x)) variables) →
        cond b (Some (called name, is_edge)) (find (is_same (called x)) variables)
        ≡ option_map (λ (v : Variable × Bool). (called x, v.1)) (cond b (Some (called name, is_edge)) (find (is_same (called x)) variables))
    by true e later = ap (λ (n : List ℕ). Some (called n, is_edge)) (sym (one_name x name e))
    by false e later = later
found_is x ((nameless number, is_edge) ∷ variables) = found_is x variables

abbrev pub with_name : List ℕ → Bool → Variable × Bool
with_name x is_edge = (called x, is_edge)

pub first_is : (x : List ℕ) (variables : List (Variable × Bool)) (o : Option Bool) →
    o ≡ option_map (λ (v : Variable × Bool). v.1) (find (is_same (called x)) variables) →
    option_to_list (option_map (with_name x) o) ≡ option_to_list (find (is_same (called x)) variables)
first_is x variables o e =
    ap (λ p. option_to_list (option_map (with_name x) p)) e
    ∙ ap option_to_list (by (find (is_same (called x)) variables) ∙ sym (found_is x variables))
  where
    by : (o : Option (Variable × Bool)) → option_map (with_name x) (option_map (λ (v : Variable × Bool). v.1) o)
        ≡ option_map (λ (v : Variable × Bool). (called x, v.1)) o
    by None = refl
    by (Some v) = refl

-- one more place
variables_push : (number : ℕ) (places : List Place) (place : Place) →
    variables_at number (places ++ place ∷ []) ≡ variables_at number places ++ (variable_at (number + length places) place.at, place.is_edge) ∷ []
variables_push number [] place = ap (λ n. (variable_at n place.at, place.is_edge) ∷ []) (omega arith)
variables_push number (first ∷ places) place =
    ap (λ vs. (variable_at number first.at, first.is_edge) ∷ vs)
    (variables_push (number + 1) places place
    ∙ ap (λ n. variables_at (number + 1) places ++ (variable_at n place.at, place.is_edge) ∷ []) (omega arith))

fold_push : (start : List (Variable × Bool)) (vs : List (Variable × Bool)) (v : Variable × Bool) →
    fold with_variable start (vs ++ v ∷ []) ≡ with_variable (fold with_variable start vs) v
fold_push start [] v = refl
fold_push start (w ∷ vs) v = fold_push (with_variable start w) vs v

pub one_more_variable : (start : List (Variable × Bool)) (places : List PlaceRef) (i : ℕ) (place : PlaceRef) → i < length places →
    place ≡ get_or places i place → length (take i places) ≡ i →
    fold with_variable start (variables_at 0 (map placed (take (i + 1) places)))
    ≡ with_variable (fold with_variable start (variables_at 0 (map placed (take i places)))) (variable_at i place.at.now, place.is_edge)
one_more_variable start places i place lt is counted =
    ap (λ ps. fold with_variable start (variables_at 0 ps))
    (ap (map placed) (one_more places i place lt is) ∙ map-append placed (take i places) (place ∷ []))
    ∙ ap (fold with_variable start) (variables_push 0 (map placed (take i places)) (placed place)
    ∙ ap (λ n. variables_at 0 (map placed (take i places)) ++ (variable_at n place.at.now, place.is_edge) ∷ [])
    (omega (arith, length-map (take i places) placed, counted)))
    ∙ fold_push start (variables_at 0 (map placed (take i places))) (variable_at i place.at.now, place.is_edge)
