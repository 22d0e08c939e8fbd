-- A written descriptor of a valid key: its places have variables of the pattern, of its kinds, and what is written at them speaks of it.
use Rattle.std.proofs.Common.{◌≡◌, ℕ, zero, suc, ◌+◌, ◌-◌, ◌*◌, ◌<◌, ◌≤◌, Bool, true, false, not, ◌&&◌, inl, inr, List, [], ◌∷◌, ◌++◌, length, map, Option, Some, None, refl, sym, ◌∙◌, ap, subst, arith, length-append}
use Rattle.std.specs.List.{list_all, flat_map, slice_get}
use Rattle.std.specs.Option.{option_map_or, unwrap_or}
use Rattle.std.proofs.lemmas.Bool.{and_parts, leb-true, cases_lt}
use Rattle.std.proofs.lemmas.List.{length-map, map-append}
use Rattle.std.proofs.lemmas.List.Folds.{list_all-append}
use Rattle.pgs_syntax.specs.declared.pattern.Atom.{Atom}
use Rattle.pgs_syntax.specs.declared.pattern.Pattern.{Pattern}
use Rattle.pgs_syntax.specs.declared.raw.RawKey.{RawKey}
use Rattle.pgs_syntax.specs.declared.raw.RawPath.{RawPath}
use Rattle.pgs_syntax.specs.declared.raw.RawStep.{RawStep}
use Rattle.pgs_syntax.specs.declared.resolved.Resolved.{Resolved}
use Rattle.pgs_syntax.specs.Valid.{is_edge_var, is_node_var, speaks_of, names_types, edge_count, is_valid_pattern, is_valid_key_of}
use Rattle.pgs_resolve_declared.specs.declared.order.Numbering.{Numbering}
use Rattle.pgs_resolve_keys.specs.Patterns.{Place, Variable, x_of, variable_at, variables_at, variables_of, number_of, place_atoms, ends, step_atoms, path_atoms, places_of, places_of_path, places_of_step, pattern_of, x_alone, resolved_key}
use Rattle.pgs_resolve_keys.proofs.AtomsOfPaths.{number_below}
use Rattle.pgs_resolve_keys.proofs.Stepped.{step_places}
use Rattle.pgs_key_causes.specs.declared.walk.Occurrence.{Occurrence}
use Rattle.pgs_key_causes.specs.Fronts.{Descriptor, occurrence_of, occurrences_of, directions_of, descriptor_of}
use Rattle.pgs_key_causes.specs.Walk.{var_at, is_edge_at}

-- what is written at a place
abbrev pub place_asks : Numbering → ℕ → Place → List Atom
place_asks numbering var place = place_atoms numbering place.is_edge var place.at.filter

-- at an edge place stands an edge of the pattern, between nodes of it
pub record IsEdgeAt (edge_vars : List Bool) (places : List Occurrence) (e : ℕ) : Type 0 where
  pub edge : is_edge_var edge_vars (var_at places e) ≡ true
  pub left : is_edge_var edge_vars (var_at places (e - 1)) ≡ false
  pub right : is_edge_var edge_vars (var_at places (e + 1)) ≡ false

pub record IsSound (schema : Resolved) (numbering : Numbering) (descriptor : Descriptor) : Type 0 where
  pub some : 0 < length descriptor.edge_vars
  pub few : length descriptor.edge_vars ≤ 20
  pub few_edges : edge_count descriptor.edge_vars ≤ 8
  pub within : (n : ℕ) → var_at descriptor.occurrences n < length descriptor.edge_vars
  pub edges : (e : ℕ) → is_edge_at descriptor.occurrences e ≡ true → IsEdgeAt descriptor.edge_vars descriptor.occurrences e
  pub speaks : (n : ℕ) (place : Place) → slice_get descriptor.places n ≡ Some place →
      list_all (speaks_of descriptor.edge_vars) (place_asks numbering (var_at descriptor.occurrences n) place) ≡ true
  pub types : (n : ℕ) (place : Place) → slice_get descriptor.places n ≡ Some place →
      list_all (names_types schema) (place_asks numbering (var_at descriptor.occurrences n) place) ≡ true

-- ---- lists of places

abbrev pub Kinded : Type 0
Kinded = Variable × Bool

pub all_left : {X : Type 0} (p : X → Bool) (xs ys : List X) → list_all p (xs ++ ys) ≡ true → (list_all p xs ≡ true) × (list_all p ys ≡ true)
all_left p xs ys h = and_parts (list_all p xs) (list_all p ys) (sym (list_all-append p xs ys) ∙ h)

pub at-append : (number : ℕ) (xs ys : List Place) → variables_at number (xs ++ ys) ≡ variables_at number xs ++ variables_at (number + length xs) ys
at-append number [] ys = ap (λ n. variables_at n ys) (omega arith)
at-append number (x ∷ xs) ys =
    ap (λ (vs : List Kinded). (variable_at number x.at, x.is_edge) ∷ vs)
    (at-append (number + 1) xs ys ∙ ap (λ n. variables_at (number + 1) xs ++ variables_at n ys) (omega arith))

-- what is so of each place and its number
abbrev EachPlace : (ℕ → Place → Type 0) → ℕ → List Place → Type 0
EachPlace P number [] = Unit {0}
EachPlace P number (place ∷ places) = P number place × EachPlace P (number + 1) places

each-append : (P : ℕ → Place → Type 0) (number : ℕ) (xs ys : List Place) → EachPlace P number xs → EachPlace P (number + length xs) ys → EachPlace P number (xs ++ ys)
each-append P number [] ys a b = let Q : ℕ → Type 0 = λ n. EachPlace P n ys in subst Q (omega arith) b
each-append P number (x ∷ xs) ys a b =
    let Q : ℕ → Type 0 = λ n. EachPlace P n ys in
    (a.0, each-append P (number + 1) xs ys a.1 (subst Q (omega arith) b))

each_at : (P : ℕ → Place → Type 0) (number : ℕ) (places : List Place) → EachPlace P number places → (n : ℕ) (place : Place) → slice_get places n ≡ Some place → P (number + n) place
each_at P number [] all n place e = cc
each_at P number (x ∷ xs) all zero place e =
    let same : x ≡ place = cc in
    let Q : Place → Type 0 = λ p. P (number + 0) p in
    let R : ℕ → Type 0 = λ n. P n x in
    subst Q same (subst R (omega arith) all.0)
each_at P number (x ∷ xs) all (suc n) place e =
    let R : ℕ → Type 0 = λ m. P m place in subst R (omega arith) (each_at P (number + 1) xs all.1 n place e)

-- ---- what all atoms of paths meet, those of each place do

module _ (numbering : Numbering) (var : Variable → ℕ) (ok : Atom → Bool) where
  abbrev Ok : ℕ → Place → Type 0
  Ok n place = list_all ok (place_asks numbering (var (variable_at n place.at)) place) ≡ true

  steps_each : (node place : ℕ) (steps : List RawStep) → list_all ok (step_atoms numbering var node place steps) ≡ true → EachPlace Ok place (flat_map places_of_step steps)
  steps_each node place [] h = tt
  steps_each node place (step ∷ steps) h =
      let edge = var (variable_at place step.edge) in
      let next = var (variable_at (place + 1) step.node) in
      let a = place_atoms numbering true edge step.edge.filter in
      let b = place_atoms numbering false next step.node.filter in
      let rest = step_atoms numbering var next (place + 2) steps in
      let parts = all_left ok (a ++ b) (ends step.forward edge node next ∷ rest) h in
      let own = all_left ok a b parts.0 in
      let later = and_parts (ok (ends step.forward edge node next)) (list_all ok rest) parts.1 in
      let Q : ℕ → Type 0 = λ n. EachPlace Ok n (flat_map places_of_step steps) in
      let further : place + 2 ≡ place + 1 + 1 = omega arith in
      (own.0, (own.1, subst Q further (steps_each next (place + 2) steps later.1)))

  pub paths_each : (place : ℕ) (paths : List RawPath) → list_all ok (path_atoms numbering var place paths) ≡ true → EachPlace Ok place (places_of paths)
  paths_each place [] h = tt
  paths_each place (path ∷ paths) h =
      let node = var (variable_at place path.start) in
      let a = place_atoms numbering false node path.start.filter in
      let b = step_atoms numbering var node (place + 1) path.steps in
      let rest = path_atoms numbering var (place + 1 + 2 * length path.steps) paths in
      let parts = all_left ok (a ++ b) rest h in
      let own = all_left ok a b parts.0 in
      let count = step_places path.steps in
      let Q : ℕ → Type 0 = λ n. EachPlace Ok n (places_of paths) in
      let further : place + 1 + 2 * length path.steps ≡ place + length (places_of_path path) = omega (arith, count) in
      each-append Ok place (places_of_path path) (places_of paths) (own.0, steps_each node (place + 1) path.steps own.1)
      (subst Q further (paths_each (place + 1 + 2 * length path.steps) paths parts.1))

-- ---- occurrences

abbrev pub node_of : ℕ → Occurrence
node_of v = record { var = v; is_edge = false }

abbrev pub edge_of : ℕ → Occurrence
edge_of v = record { var = v; is_edge = true }

-- an occurrence in front of others, and one of the others
pub at_left : (xs ys : List Occurrence) (n : ℕ) → n < length xs → slice_get (xs ++ ys) n ≡ slice_get xs n
at_left [] ys n lt = absurd (omega (arith, lt))
at_left (x ∷ xs) ys zero lt = refl
at_left (x ∷ xs) ys (suc n) lt = at_left xs ys n (omega (arith, lt))

pub at_right : (xs ys : List Occurrence) (n : ℕ) → slice_get (xs ++ ys) (length xs + n) ≡ slice_get ys n
at_right [] ys n = ap (slice_get ys) (omega arith)
at_right (x ∷ xs) ys n = let e : length (x ∷ xs) + n ≡ suc (length xs + n) = omega arith in ap (slice_get (x ∷ (xs ++ ys))) e ∙ at_right xs ys n

abbrev pub var_in : Option Occurrence → ℕ
var_in o = option_map_or (λ (place : Occurrence). place.var) o 0

abbrev pub edge_in : Option Occurrence → Bool
edge_in o = option_map_or (λ (place : Occurrence). place.is_edge) o false

-- ---- edges stand between nodes

module _ (edge_vars : List Bool) where
  pub record IsBetween (places : List Occurrence) (e : ℕ) : Type 0 where
    pub first : 1 ≤ e
    pub last : suc e < length places
    pub kinds : IsEdgeAt edge_vars places e
    pub left_node : is_edge_at places (e - 1) ≡ false
    pub right_node : is_edge_at places (e + 1) ≡ false

  abbrev pub AreBetween : List Occurrence → Type 0
  AreBetween places = (e : ℕ) → is_edge_at places e ≡ true → IsBetween places e

  node_is : (v : ℕ) → is_node_var edge_vars v ≡ true → is_edge_var edge_vars v ≡ false
  node_is v h = by (slice_get edge_vars v) h
    where
      by : (o : Option Bool) → option_map_or not o false ≡ true → option_map_or (λ is_edge. is_edge) o false ≡ false
      by None h = cc
      by (Some true) h = cc
      by (Some false) h = refl

  record Kinds (e a b : ℕ) : Type 0 where
    edge : is_edge_var edge_vars e ≡ true
    left : is_edge_var edge_vars a ≡ false
    right : is_edge_var edge_vars b ≡ false

  link_kinds : (forward : Bool) (e a b : ℕ) → speaks_of edge_vars (ends forward e a b) ≡ true → Kinds e a b
  link_kinds true e a b h =
      let parts = and_parts (is_edge_var edge_vars e && is_node_var edge_vars a) (is_node_var edge_vars b) h in
      let inner = and_parts (is_edge_var edge_vars e) (is_node_var edge_vars a) parts.0 in
      record { edge = inner.0; left = node_is a inner.1; right = node_is b parts.1 }
  link_kinds false e a b h =
      let parts = and_parts (is_edge_var edge_vars e && is_node_var edge_vars b) (is_node_var edge_vars a) h in
      let inner = and_parts (is_edge_var edge_vars e) (is_node_var edge_vars b) parts.0 in
      record { edge = inner.0; left = node_is a parts.1; right = node_is b inner.1 }

  one_node : (v : ℕ) → AreBetween (node_of v ∷ [])
  one_node v zero h = cc
  one_node v (suc e) h = cc

  more_step : (a e b : ℕ) (rest : List Occurrence) → Kinds e a b → AreBetween (node_of b ∷ rest) → AreBetween (node_of a ∷ edge_of e ∷ node_of b ∷ rest)
  more_step a e b rest kinds later zero h = cc
  more_step a e b rest kinds later (suc zero) h =
      let places = node_of a ∷ edge_of e ∷ node_of b ∷ rest in
      let before : suc zero - 1 ≡ zero = omega arith in
      let behind : suc zero + 1 ≡ suc (suc zero) = omega arith in
      record {
        first = omega arith;
        last = omega arith;
        kinds = record {
          edge = kinds.edge;
          left = ap (λ k. is_edge_var edge_vars (var_at places k)) before ∙ kinds.left;
          right = ap (λ k. is_edge_var edge_vars (var_at places k)) behind ∙ kinds.right;
        };
        left_node = ap (is_edge_at places) before;
        right_node = ap (is_edge_at places) behind;
      }
  more_step a e b rest kinds later (suc (suc zero)) h = cc
  more_step a e b rest kinds later (suc (suc (suc n))) h =
      let own = later (suc n) h in
      let last = own.last in
      let places = node_of a ∷ edge_of e ∷ node_of b ∷ rest in
      let before : suc (suc (suc n)) - 1 ≡ suc (suc (suc n - 1)) = omega arith in
      let behind : suc (suc (suc n)) + 1 ≡ suc (suc (suc n + 1)) = omega arith in
      record {
        first = omega arith;
        last = omega (arith, last);
        kinds = record {
          edge = own.kinds.edge;
          left = ap (λ k. is_edge_var edge_vars (var_at places k)) before ∙ own.kinds.left;
          right = ap (λ k. is_edge_var edge_vars (var_at places k)) behind ∙ own.kinds.right;
        };
        left_node = ap (is_edge_at places) before ∙ own.left_node;
        right_node = ap (is_edge_at places) behind ∙ own.right_node;
      }

  between-append : (xs ys : List Occurrence) → AreBetween xs → AreBetween ys → AreBetween (xs ++ ys)
  between-append xs ys a b e h = elim (cases_lt e (length xs)) [
    | inl lt ↦
        let own = a e (sym (ap edge_in (at_left xs ys e lt)) ∙ h) in
        let first = own.first in
        let last = own.last in
        let left = ap var_in (at_left xs ys (e - 1) (omega (arith, lt))) in
        let right = ap var_in (at_left xs ys (e + 1) (omega (arith, last))) in
        let size = length-append xs ys in
        record {
          first = first;
          last = omega (arith, last, size);
          kinds = record {
            edge = ap (is_edge_var edge_vars) (ap var_in (at_left xs ys e lt)) ∙ own.kinds.edge;
            left = ap (is_edge_var edge_vars) left ∙ own.kinds.left;
            right = ap (is_edge_var edge_vars) right ∙ own.kinds.right;
          };
          left_node = ap edge_in (at_left xs ys (e - 1) (omega (arith, lt))) ∙ own.left_node;
          right_node = ap edge_in (at_left xs ys (e + 1) (omega (arith, last))) ∙ own.right_node;
        }
    | inr le ↦
        let n : ℕ = e - length xs in
        let is : length xs + n ≡ e = omega (arith, le) in
        let here = ap (slice_get (xs ++ ys)) (sym is) ∙ at_right xs ys n in
        let own = b n (sym (ap edge_in here) ∙ h) in
        let first = own.first in
        let last = own.last in
        let before : length xs + (n - 1) ≡ e - 1 = omega (arith, le, first) in
        let behind : length xs + (n + 1) ≡ e + 1 = omega (arith, le) in
        let size = length-append xs ys in
        record {
          first = omega (arith, first, le);
          last = omega (arith, last, size, is);
          kinds = record {
            edge = ap (is_edge_var edge_vars) (ap var_in here) ∙ own.kinds.edge;
            left = ap (is_edge_var edge_vars) (ap var_in (ap (slice_get (xs ++ ys)) (sym before) ∙ at_right xs ys (n - 1))) ∙ own.kinds.left;
            right = ap (is_edge_var edge_vars) (ap var_in (ap (slice_get (xs ++ ys)) (sym behind) ∙ at_right xs ys (n + 1))) ∙ own.kinds.right;
          };
          left_node = ap edge_in (ap (slice_get (xs ++ ys)) (sym before) ∙ at_right xs ys (n - 1)) ∙ own.left_node;
          right_node = ap edge_in (ap (slice_get (xs ++ ys)) (sym behind) ∙ at_right xs ys (n + 1)) ∙ own.right_node;
        }
  ]

  module _ (numbering : Numbering) (variables : List Kinded) where
    abbrev pub own_var : Variable → ℕ
    own_var v = number_of variables v

    abbrev pub occurrences : ℕ → List Place → List Occurrence
    occurrences number places = map (occurrence_of variables) (variables_at number places)

    pub steps_between : (node place : ℕ) (steps : List RawStep) → list_all (speaks_of edge_vars) (step_atoms numbering own_var node place steps) ≡ true →
        AreBetween (node_of node ∷ occurrences place (flat_map places_of_step steps))
    steps_between node place [] h = one_node node
    steps_between node place (step ∷ steps) h =
        let edge = own_var (variable_at place step.edge) in
        let next = own_var (variable_at (place + 1) step.node) in
        let a = place_atoms numbering true edge step.edge.filter in
        let b = place_atoms numbering false next step.node.filter in
        let rest = step_atoms numbering own_var next (place + 2) steps in
        let parts = all_left (speaks_of edge_vars) (a ++ b) (ends step.forward edge node next ∷ rest) h in
        let later = and_parts (speaks_of edge_vars (ends step.forward edge node next)) (list_all (speaks_of edge_vars) rest) parts.1 in
        let Q : ℕ → Type 0 = λ n. AreBetween (node_of next ∷ occurrences n (flat_map places_of_step steps)) in
        let further : place + 2 ≡ place + 1 + 1 = omega arith in
        more_step node edge next (occurrences (place + 1 + 1) (flat_map places_of_step steps)) (link_kinds step.forward edge node next later.0)
        (subst Q further (steps_between next (place + 2) steps later.1))

    pub paths_between : (place : ℕ) (paths : List RawPath) → list_all (speaks_of edge_vars) (path_atoms numbering own_var place paths) ≡ true →
        AreBetween (occurrences place (places_of paths))
    paths_between place [] h = λ e edge. cc
    paths_between place (path ∷ paths) h =
        let node = own_var (variable_at place path.start) in
        let a = place_atoms numbering false node path.start.filter in
        let b = step_atoms numbering own_var node (place + 1) path.steps in
        let rest = path_atoms numbering own_var (place + 1 + 2 * length path.steps) paths in
        let parts = all_left (speaks_of edge_vars) (a ++ b) rest h in
        let own = all_left (speaks_of edge_vars) a b parts.0 in
        let count = step_places path.steps in
        let further : place + 1 + 2 * length path.steps ≡ place + length (places_of_path path) = omega (arith, count) in
        let Q : ℕ → Type 0 = λ n. AreBetween (occurrences n (places_of paths)) in
        let both : occurrences place (places_of (path ∷ paths)) ≡ occurrences place (places_of_path path) ++ occurrences (place + length (places_of_path path)) (places_of paths) =
        ap (map (occurrence_of variables)) (at-append place (places_of_path path) (places_of paths))
        ∙ map-append (occurrence_of variables) (variables_at place (places_of_path path)) (variables_at (place + length (places_of_path path)) (places_of paths)) in
        subst AreBetween (sym both)
        (between-append (occurrences place (places_of_path path)) (occurrences (place + length (places_of_path path)) (places_of paths))
        (steps_between node (place + 1) path.steps own.1) (subst Q further (paths_between (place + 1 + 2 * length path.steps) paths parts.1)))

-- ---- the descriptor of a valid key

pub var_below : (count : ℕ) (variables : List Kinded) → 0 < count → ((v : Variable) → number_of variables v < count) → (vs : List Kinded) (n : ℕ) →
    var_at (map (occurrence_of variables) vs) n < count
var_below count variables some each [] n = some
var_below count variables some each (v ∷ vs) zero = each v.0
var_below count variables some each (v ∷ vs) (suc n) = var_below count variables some each vs n

-- what is said of a pattern within the limits
record IsFit (schema : Resolved) (pattern : Pattern) : Type 0 where
  some : 0 < length pattern.edge_vars
  few : length pattern.edge_vars ≤ 20
  few_edges : edge_count pattern.edge_vars ≤ 8
  speaks : list_all (speaks_of pattern.edge_vars) pattern.atoms ≡ true
  types : list_all (names_types schema) pattern.atoms ≡ true

fit : (schema : Resolved) (pattern : Pattern) → is_valid_pattern pattern ≡ true → list_all (names_types schema) pattern.atoms ≡ true → IsFit schema pattern
fit schema pattern valid types =
    let outer = and_parts _ _ valid in
    let ends = and_parts _ _ outer.0 in
    let speaks = and_parts _ _ ends.0 in
    let edges = and_parts _ _ speaks.0 in
    let sizes = and_parts _ _ edges.0 in
    let a = leb-true 1 (length pattern.edge_vars) sizes.0 in
    record {
      some = omega (arith, a);
      few = leb-true (length pattern.edge_vars) 20 sizes.1;
      few_edges = leb-true (edge_count pattern.edge_vars) 8 edges.1;
      speaks = speaks.1;
      types = types;
    }

abbrev parts_of : List ℕ → Pattern → Option (List RawPath) → List Bool → Descriptor
parts_of x alone o directions = record {
  places = places_of (unwrap_or o []);
  occurrences = occurrences_of x (unwrap_or o []);
  directions = directions;
  edge_vars = alone.edge_vars;
}

nothing_written : (schema : Resolved) (numbering : Numbering) (x : List ℕ) (pattern : Pattern) (directions : List Bool) → IsFit schema pattern →
    IsSound schema numbering (parts_of x pattern None directions)
nothing_written schema numbering x pattern directions is = record {
  some = is.some;
  few = is.few;
  few_edges = is.few_edges;
  within = λ n. is.some;
  edges = λ e h. cc;
  speaks = λ n place h. cc;
  types = λ n place h. cc;
}

module _ (schema : Resolved) (numbering : Numbering) (x : List ℕ) (paths : List RawPath) (is : IsFit schema (pattern_of numbering x paths)) where
  abbrev kinds : List Bool
  kinds = (pattern_of numbering x paths).edge_vars

  abbrev var : Variable → ℕ
  var = number_of (variables_of x paths)

  each_below : (v : Variable) → var v < length kinds
  each_below v =
      let some = is.some in
      let many = length-map (variables_of x paths) (λ (v : Kinded). v.1) in
      let h = number_below (variables_of x paths) v (omega (arith, some, many)) in
      omega (arith, h, many)

  -- the occurrence at a place is that of its variable
  occurs : (number : ℕ) (places : List Place) (n : ℕ) (place : Place) → slice_get places n ≡ Some place →
      var_at (map (occurrence_of (variables_of x paths)) (variables_at number places)) n ≡ var (variable_at (number + n) place.at)
  occurs number [] n place h = cc
  occurs number (p ∷ ps) zero place h =
      let same : p ≡ place = cc in
      let zero_more : number ≡ number + 0 = omega arith in
      ap (λ (q : Place). var (variable_at number q.at)) same ∙ ap (λ k. var (variable_at k place.at)) zero_more
  occurs number (p ∷ ps) (suc n) place h =
      let further : number + 1 + n ≡ number + suc n = omega arith in
      occurs (number + 1) ps n place h ∙ ap (λ k. var (variable_at k place.at)) further

  asks : (ok : Atom → Bool) → list_all ok (path_atoms numbering var 0 paths) ≡ true → (n : ℕ) (place : Place) → slice_get (places_of paths) n ≡ Some place →
      list_all ok (place_asks numbering (var_at (occurrences_of x paths) n) place) ≡ true
  asks ok h n place e =
      let zero_more : 0 + n ≡ n = omega arith in
      ap (λ v. list_all ok (place_asks numbering v place)) (occurs 0 (places_of paths) n place e)
      ∙ each_at (Ok numbering var ok) 0 (places_of paths) (paths_each numbering var ok 0 paths h) n place e

  paths_written : (directions : List Bool) → IsSound schema numbering (parts_of x (pattern_of numbering x paths) (Some paths) directions)
  paths_written directions = record {
    some = is.some;
    few = is.few;
    few_edges = is.few_edges;
    within = var_below (length kinds) (variables_of x paths) is.some each_below (variables_at 0 (places_of paths));
    edges = λ e h. (paths_between kinds numbering (variables_of x paths) 0 paths is.speaks e h).kinds;
    speaks = asks (speaks_of kinds) is.speaks;
    types = asks (names_types schema) is.types;
  }

pub written_sound : (schema : Resolved) (numbering : Numbering) (key : RawKey) → is_valid_key_of schema (resolved_key numbering key) ≡ true →
    IsSound schema numbering (descriptor_of numbering key)
written_sound schema numbering key valid =
    let outer = and_parts _ _ valid in
    let scope = and_parts _ _ outer.0 in
    let count = and_parts _ _ scope.0 in
    let exprs = and_parts _ _ count.0 in
    let kind = and_parts _ _ exprs.0 in
    let patterns = and_parts _ _ kind.0 in
    by key.within patterns.1 outer.1
  where
    x : List ℕ
    x = unwrap_or (x_of key) []

    by : (o : Option (List RawPath)) → is_valid_pattern (option_map_or (pattern_of numbering (unwrap_or (x_of key) [])) o (x_alone (pattern_of numbering (unwrap_or (x_of key) []) key.scope))) ≡ true →
        list_all (names_types schema) (option_map_or (pattern_of numbering (unwrap_or (x_of key) [])) o (x_alone (pattern_of numbering (unwrap_or (x_of key) []) key.scope))).atoms ≡ true →
        IsSound schema numbering
        (parts_of (unwrap_or (x_of key) []) (option_map_or (pattern_of numbering (unwrap_or (x_of key) [])) o (x_alone (pattern_of numbering (unwrap_or (x_of key) []) key.scope))) o (directions_of (unwrap_or o [])))
    by None h t =
        nothing_written schema numbering (unwrap_or (x_of key) []) (x_alone (pattern_of numbering (unwrap_or (x_of key) []) key.scope)) [] (fit schema _ h t)
    by (Some paths) h t = paths_written schema numbering (unwrap_or (x_of key) []) paths (fit schema _ h t) (directions_of paths)
