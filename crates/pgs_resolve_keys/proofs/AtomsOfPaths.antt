-- What holds of all atoms of paths: of those of names and of tests, and of the ends of each edge.
use Rattle.std.proofs.Common.{◌≡◌, ℕ, ◌+◌, ◌*◌, ◌<◌, Bool, true, false, cond, List, [], ◌∷◌, ◌++◌, length, map, Option, Some, None, refl, ◌∙◌, ap, subst, inl, inr, arith}
use Rattle.std.specs.List.{flat_map, fold, find, list_all, list_any, position_or_len}
use Rattle.std.specs.Option.{option_map_or, option_to_list, unwrap_or}
use Rattle.std.proofs.lemmas.Bool.{and_from, cases_lt, lt-ltb, le-ltb}
use Rattle.std.proofs.lemmas.List.{length-map}
use Rattle.std.proofs.lemmas.List.Folds.{list_all-append}
use Rattle.pgs_base.specs.declared.value.Value.{Value}
use Rattle.pgs_syntax.specs.declared.pattern.Atom.{Atom}
use Rattle.pgs_syntax.specs.declared.pattern.Atom.TheVariants.{Ends, Equals, HasLabel, FitsNode, FitsEdge}
use Rattle.pgs_syntax.specs.declared.raw.RawFilter.{RawFilter}
use Rattle.pgs_syntax.specs.declared.raw.RawPath.{RawPath}
use Rattle.pgs_syntax.specs.declared.raw.RawStep.{RawStep}
use Rattle.pgs_resolve_keys.specs.Groups.{has_ends_below}
use Rattle.pgs_resolve_declared.specs.declared.order.Numbering.{Numbering}
use Rattle.pgs_resolve_declared.specs.Order.{number_in}
use Rattle.pgs_resolve_keys.specs.Patterns.{Place, Variable, variable_at, variables_at, with_variable, is_same, called, variables_of, number_of, name_atom, place_atoms, ends, step_atoms, path_atoms, places_of, places_of_path, places_of_step, pattern_of}
use Rattle.pgs_resolve_keys.proofs.Stepped.{step_places}

module _ {X : Type 0} (p : X → Bool) where
  pub both_all : (xs ys : List X) → list_all p xs ≡ true → list_all p ys ≡ true → list_all p (xs ++ ys) ≡ true
  both_all xs ys a b = list_all-append p xs ys ∙ and_from _ _ a b

  pub map_all : {Y : Type 0} (f : Y → X) → ((y : Y) → p (f y) ≡ true) → (ys : List Y) → list_all p (map f ys) ≡ true
  map_all f each [] = refl
  map_all f each (y ∷ ys) = and_from _ _ (each y) (map_all f each ys)

-- what is so of the variables at all places, the first of which has this number
abbrev pub AllGood : (Variable → ℕ) → (Bool → ℕ → Type 0) → ℕ → List Place → Type 0
AllGood var good number [] = Unit {0}
AllGood var good number (place ∷ places) = good place.is_edge (var (variable_at number place.at)) × AllGood var good (number + 1) places

module _ (numbering : Numbering) (var : Variable → ℕ) (good : Bool → ℕ → Type 0) (ok : Atom → Bool)
    (names_ok : (is_edge : Bool) (v : ℕ) → good is_edge v → (name : List ℕ) → ok (name_atom numbering is_edge v name) ≡ true)
    (tests_ok : (is_edge : Bool) (v : ℕ) → good is_edge v → (key : List ℕ) (value : Value) → ok (Equals v key value) ≡ true)
    (ends_ok : (e a b : ℕ) → good true e → good false a → good false b → ok (Ends e a b) ≡ true) where
  place_ok : (is_edge : Bool) (v : ℕ) → good is_edge v → (filter : RawFilter) → list_all ok (place_atoms numbering is_edge v filter) ≡ true
  place_ok is_edge v g filter =
      both_all ok (map (name_atom numbering is_edge v) filter.names) (map (λ (test : List ℕ × Value). Equals v test.0 test.1) filter.tests)
      (map_all ok (name_atom numbering is_edge v) (names_ok is_edge v g) filter.names)
      (map_all ok (λ (test : List ℕ × Value). Equals v test.0 test.1) (λ test. tests_ok is_edge v g test.0 test.1) filter.tests)

  link_ok : (forward : Bool) (e a b : ℕ) → good true e → good false a → good false b → ok (ends forward e a b) ≡ true
  link_ok true e a b x y z = ends_ok e a b x y z
  link_ok false e a b x y z = ends_ok e b a x z y

  abbrev GoodPlaces : ℕ → List Place → Type 0
  GoodPlaces = AllGood var good

  rest_good : (number : ℕ) (xs ys : List Place) → GoodPlaces number (xs ++ ys) → GoodPlaces (number + length xs) ys
  rest_good number [] ys g = let P : ℕ → Type 0 = λ n. GoodPlaces n ys in subst P (omega arith) g
  rest_good number (x ∷ xs) ys g =
      let P : ℕ → Type 0 = λ n. GoodPlaces n ys in subst P (omega arith) (rest_good (number + 1) xs ys g.1)

  first_good : (number : ℕ) (xs ys : List Place) → GoodPlaces number (xs ++ ys) → GoodPlaces number xs
  first_good number [] ys g = tt
  first_good number (x ∷ xs) ys g = (g.0, first_good (number + 1) xs ys g.1)

  steps_ok : (node place : ℕ) (steps : List RawStep) → good false node → GoodPlaces place (flat_map places_of_step steps) →
      list_all ok (step_atoms numbering var node place steps) ≡ true
  steps_ok node place [] n g = refl
  steps_ok node place (step ∷ steps) n g =
      let edge = var (variable_at place step.edge) in
      let next = var (variable_at (place + 1) step.node) in
      let P : ℕ → Type 0 = λ at. GoodPlaces at (flat_map places_of_step steps) in
      let further : place + 1 + 1 ≡ place + 2 = omega arith in
      let later = steps_ok next (place + 2) steps g.1.0 (subst P further g.1.1) in
      both_all ok (place_atoms numbering true edge step.edge.filter ++ place_atoms numbering false next step.node.filter) _
      (both_all ok (place_atoms numbering true edge step.edge.filter) _ (place_ok true edge g.0 step.edge.filter) (place_ok false next g.1.0 step.node.filter))
      (and_from _ _ (link_ok step.forward edge node next g.0 n g.1.0) later)

  pub paths_ok : (place : ℕ) (paths : List RawPath) → GoodPlaces place (places_of paths) → list_all ok (path_atoms numbering var place paths) ≡ true
  paths_ok place [] g = refl
  paths_ok place (path ∷ paths) g =
      let node = var (variable_at place path.start) in
      let mine = first_good place (places_of_path path) (places_of paths) g in
      let P : ℕ → Type 0 = λ at. GoodPlaces at (places_of paths) in
      let count = step_places path.steps in
      let further : place + length (places_of_path path) ≡ place + 1 + 2 * length path.steps = omega (arith, count) in
      let later = paths_ok (place + 1 + 2 * length path.steps) paths (subst P further (rest_good place (places_of_path path) (places_of paths) g)) in
      both_all ok (place_atoms numbering false node path.start.filter ++ step_atoms numbering var node (place + 1) path.steps) _
      (both_all ok (place_atoms numbering false node path.start.filter) _ (place_ok false node mine.0 path.start.filter)
      (steps_ok node (place + 1) path.steps mine.0 mine.1)) later

-- ---- the number of a variable is in range

all_below : (var : Variable → ℕ) (count : ℕ) → ((v : Variable) → var v < count) → (number : ℕ) (places : List Place) →
    AllGood var (λ is_edge v. v < count) number places
all_below var count each number [] = tt
all_below var count each number (place ∷ places) = (each (variable_at number place.at), all_below var count each (number + 1) places)

pub number_below : (variables : List (Variable × Bool)) (v : Variable) → 0 < length variables → number_of variables v < length variables
number_below variables v some =
    let n : ℕ = position_or_len (is_same v) variables in
    elim (cases_lt n (length variables)) [
      | inl h ↦ let e = ap (λ b. unwrap_or (cond b (Some n) None) 0) (lt-ltb n (length variables) h) in omega (arith, e, h)
      | inr h ↦ let e = ap (λ b. unwrap_or (cond b (Some n) None) 0) (le-ltb n (length variables) h) in omega (arith, e, some)
    ]

one_grows : (variables : List (Variable × Bool)) (v : Variable × Bool) → 0 < length (with_variable variables v)
one_grows [] v = omega arith
one_grows (w ∷ ws) v = by (list_any (is_same v.0) (w ∷ ws))
  where
    by : (b : Bool) → 0 < length (cond b (w ∷ ws) ((w ∷ ws) ++ v ∷ []))
    by true = omega arith
    by false = omega arith

all_grow : (start vs : List (Variable × Bool)) → 0 < length start → 0 < length (fold with_variable start vs)
all_grow start [] h = h
all_grow start (v ∷ vs) h = all_grow (with_variable start v) vs (one_grows start v)

pub some_variable : (x : List ℕ) (path : RawPath) (paths : List RawPath) → 0 < length (variables_of x (path ∷ paths))
some_variable x path paths =
    let all : List (Variable × Bool) = variables_at 0 (places_of (path ∷ paths)) in
    let first : Variable × Bool = (variable_at 0 path.start, false) in
    let start : List (Variable × Bool) = option_to_list (find (is_same (called x)) all) in
    all_grow (with_variable start first) (variables_at 1 (flat_map places_of_step path.steps ++ places_of paths)) (one_grows start first)

kept : (numbering : Numbering) (count : ℕ) (is_edge : Bool) (v : ℕ) → v < count → (name : List ℕ) → has_ends_below count (name_atom numbering is_edge v name) ≡ true
kept numbering count false v h name = by (number_in numbering.nodes name)
  where
    by : (o : Option ℕ) → has_ends_below count (option_map_or (FitsNode v) o (HasLabel v name)) ≡ true
    by None = refl
    by (Some n) = refl
kept numbering count true v h name = by (number_in numbering.edges name)
  where
    by : (o : Option ℕ) → has_ends_below count (option_map_or (FitsEdge v) o (HasLabel v name)) ≡ true
    by None = refl
    by (Some n) = refl

pub ends_in_range : (numbering : Numbering) (x : List ℕ) (paths : List RawPath) →
    list_all (has_ends_below (length (pattern_of numbering x paths).edge_vars)) (pattern_of numbering x paths).atoms ≡ true
ends_in_range numbering x [] = refl
ends_in_range numbering x (path ∷ paths) =
    let variables : List (Variable × Bool) = variables_of x (path ∷ paths) in
    let count : ℕ = length (map (λ (v : Variable × Bool). v.1) variables) in
    let same : count ≡ length variables = length-map variables (λ (v : Variable × Bool). v.1) in
    paths_ok numbering (number_of variables) (λ is_edge v. v < count) (has_ends_below count) (kept numbering count)
    (λ is_edge v h key value. refl)
    (λ e a b he ha hb. and_from _ _ (and_from _ _ (lt-ltb _ _ he) (lt-ltb _ _ ha)) (lt-ltb _ _ hb)) 0 (path ∷ paths)
    (all_below (number_of variables) count (λ v. let h = number_below variables v (some_variable x path paths) in omega (arith, same, h)) 0 (places_of (path ∷ paths)))
