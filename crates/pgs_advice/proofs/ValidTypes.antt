-- In a valid schema each type names types before itself alone, and keys and the guard name types that are there.
use Rattle.std.proofs.Common.{◌≡◌, ℕ, zero, suc, ◌+◌, ◌<◌, ◌≤◌, Bool, true, false, List, [], ◌∷◌, ◌++◌, length, map, slice_get, Option, Some, None, refl, sym, ap, subst, ◌∙◌, ⊎_elim, true≢false, arith}
use Rattle.std.specs.List.{list_any, list_all, filter_map, flat_map}
use Rattle.std.specs.Option.{option_map_or}
use Rattle.std.proofs.lemmas.Bool.{and_parts, or_cases, ltb-true, lt-ltb}
use Rattle.std.proofs.lemmas.List.Elements.{filter_map-append}
use Rattle.std.proofs.lemmas.Option.{slice_get_within}
use Rattle.pgs_syntax.specs.declared.element_type.NodeType.{NodeType}
use Rattle.pgs_syntax.specs.declared.element_type.EdgeType.{EdgeType}
use Rattle.pgs_syntax.specs.declared.key.Key.{Key}
use Rattle.pgs_syntax.specs.declared.pattern.Atom.{Atom}
use Rattle.pgs_syntax.specs.declared.pattern.Atom.TheVariants.{Ends, HasLabel, FitsNode, FitsEdge, Equals}
use Rattle.pgs_syntax.specs.declared.resolved.Resolved.{Resolved}
use Rattle.pgs_syntax.specs.declared.resolved.TypeNo.{TypeNo}
use Rattle.pgs_syntax.specs.declared.resolved.TypeNo.TheVariants.{Node, Edge}
use Rattle.pgs_syntax.specs.declared.specification.Leaf.{Leaf}
use Rattle.pgs_syntax.specs.declared.specification.Leaf.TheVariants.{Label, Named}
use Rattle.pgs_syntax.specs.declared.specification.Spec as specs
use Rattle.pgs_syntax.specs.declared.specification.Spec.{Spec, Empty, Word, OpenLabels, And', Or', Opt', Row_of-Spec, end_of-Spec, more_of-Spec}
use Rattle.pgs_syntax.specs.Valid.{is_valid, is_valid_spec, are_valid_specs, are_valid_nodes, are_valid_edges, is_type, names_types, is_valid_key, is_valid_key_of}
use Rattle.pgs_advice.specs.Parts.{parts_of, parts_of_each}
use Rattle.pgs_advice.specs.Used.{type_of, type_in, types_in, named_by_edge, named_by, type_at, named_by_key, first_types, is_same_type, is_among}
use Rattle.pgs_advice.proofs.Using.{same_is, among_both}

-- a type of this kind and of a number below a bound
pub record IsBelow (is_edge : Bool) (bound : ℕ) (t : TypeNo) : Type 0 where
  pub number : ℕ
  pub is : t ≡ type_of is_edge number
  pub below : number < bound

none_among : {P : Type 0} (t : TypeNo) → is_among t [] ≡ true → P
none_among t h = absurd (true≢false (sym h))

-- what a specification names
module _ (is_edge : Bool) (bound : ℕ) where
  abbrev types_at : List (Spec Leaf) → List TypeNo
  types_at parts = filter_map (type_in is_edge) parts

  mutual
    pub in_spec : (spec : Spec Leaf) → is_valid_spec bound spec ≡ true → (t : TypeNo) → is_among t (types_at (parts_of spec)) ≡ true → IsBelow is_edge bound t
    in_spec Empty valid t h = none_among t h
    in_spec (Word (Label label)) valid t h = none_among t h
    in_spec (Word (Named number)) valid t h =
        record { number = number; is = ⊎_elim (λ here. same_is t (type_of is_edge number) here) (λ none. none_among t none) (or_cases _ _ h); below = ltb-true number bound valid }
    in_spec OpenLabels valid t h = none_among t h
    in_spec (specs.Braces braces) valid t h = none_among t h
    in_spec (And' _ parts) valid t h = in_each parts valid t h
    in_spec (Or' _ parts) valid t h = in_each parts valid t h
    in_spec (Opt' _ part) valid t h = in_each part valid t h

    in_each : {n : _} (parts : Row_of-Spec Leaf n) → are_valid_specs bound parts ≡ true → (t : TypeNo) → is_among t (types_at (parts_of_each parts)) ≡ true → IsBelow is_edge bound t
    in_each end_of-Spec valid t h = none_among t h
    in_each (more_of-Spec part parts) valid t h =
        ⊎_elim (λ here. in_spec part (and_parts _ _ valid).0 t here) (λ later. in_each parts (and_parts _ _ valid).1 t later)
        (among_both t (types_at (parts_of part)) (types_at (parts_of_each parts)) (sym (ap (is_among t) (filter_map-append (type_in is_edge) (parts_of part) (parts_of_each parts))) ∙ h))

-- ---- what a valid schema says of each type

valid_node : (first : ℕ) (types : List (NodeType Leaf)) (i : ℕ) (type : NodeType Leaf) → are_valid_nodes first types ≡ true → slice_get types i ≡ Some type →
    is_valid_spec (first + i) type.spec ≡ true
valid_node first [] i type valid at = cc
valid_node first (own ∷ types) zero type valid at =
    let same : own ≡ type = cc in
    let here : first + 0 ≡ first = omega arith in
    ap (λ n. is_valid_spec n type.spec) here ∙ ap (λ (t : NodeType Leaf). is_valid_spec first t.spec) (sym same) ∙ (and_parts _ _ valid).0
valid_node first (own ∷ types) (suc i) type valid at =
    let here : first + suc i ≡ (first + 1) + i = omega arith in
    ap (λ n. is_valid_spec n type.spec) here ∙ valid_node (first + 1) types i type (and_parts _ _ valid).1 at

record AreValid (nodes own : ℕ) (type : EdgeType Leaf) : Type 0 where
  pub source : is_valid_spec nodes type.source ≡ true
  pub middle : is_valid_spec own type.middle ≡ true
  pub target : is_valid_spec nodes type.target ≡ true

valid_edge : (nodes first : ℕ) (types : List (EdgeType Leaf)) (i : ℕ) (type : EdgeType Leaf) → are_valid_edges nodes first types ≡ true → slice_get types i ≡ Some type →
    AreValid nodes (first + i) type
valid_edge nodes first [] i type valid at = cc
valid_edge nodes first (own ∷ types) zero type valid at =
    let same : own ≡ type = cc in
    let here : first ≡ first + 0 = omega arith in
    let outer = and_parts _ _ valid in
    let parts = and_parts _ _ outer.0 in
    let inner = and_parts _ _ parts.0 in
    let own_valid : AreValid nodes first own = record { source = inner.0; middle = inner.1; target = parts.1 } in
    subst (λ (t : EdgeType Leaf). AreValid nodes (first + 0) t) same (subst (λ n. AreValid nodes n own) here own_valid)
valid_edge nodes first (own ∷ types) (suc i) type valid at =
    let here : (first + 1) + i ≡ first + suc i = omega arith in
    subst (λ n. AreValid nodes n type) here (valid_edge nodes (first + 1) types i type (and_parts _ _ valid).1 at)

-- node types, and behind them edge types
abbrev pub rank : Resolved → TypeNo → ℕ
rank resolved (Node number) = number
rank resolved (Edge number) = length resolved.nodes + number

pub record IsLower (resolved : Resolved) (t by : TypeNo) : Type 0 where
  pub less : rank resolved t < rank resolved by
  pub there : is_type resolved t ≡ true

-- ---- what keys and the guard name is there

module _ (resolved : Resolved) where
  in_all : (types : List TypeNo) → list_all (is_type resolved) types ≡ true → (t : TypeNo) → is_among t types ≡ true → is_type resolved t ≡ true
  in_all [] all t h = none_among t h
  in_all (type ∷ types) all t h =
      ⊎_elim (λ here. ap (is_type resolved) (same_is t type here) ∙ (and_parts _ _ all).0) (λ later. in_all types (and_parts _ _ all).1 t later) (or_cases _ _ h)

  in_atoms : (atoms : List Atom) → list_all (names_types resolved) atoms ≡ true → (t : TypeNo) → is_among t (filter_map type_at atoms) ≡ true → is_type resolved t ≡ true
  in_atoms [] all t h = none_among t h
  in_atoms (Ends edge source target ∷ atoms) all t h = in_atoms atoms all t h
  in_atoms (HasLabel var label ∷ atoms) all t h = in_atoms atoms all t h
  in_atoms (FitsNode var number ∷ atoms) all t h =
      ⊎_elim (λ here. ap (is_type resolved) (same_is t (Node number) here) ∙ (and_parts _ _ all).0) (λ later. in_atoms atoms (and_parts _ _ all).1 t later) (or_cases _ _ h)
  in_atoms (FitsEdge var number ∷ atoms) all t h =
      ⊎_elim (λ here. ap (is_type resolved) (same_is t (Edge number) here) ∙ (and_parts _ _ all).0) (λ later. in_atoms atoms (and_parts _ _ all).1 t later) (or_cases _ _ h)
  in_atoms (Equals var key value ∷ atoms) all t h = in_atoms atoms all t h

  pub in_key : (key : Key) → is_valid_key_of resolved key ≡ true → (t : TypeNo) → is_among t (named_by_key key) ≡ true → is_type resolved t ≡ true
  in_key key all t h =
      let parts = and_parts _ _ all in
      ⊎_elim (λ scope. in_atoms key.scope.atoms (and_parts _ _ parts.0).1 t scope) (λ rest. in_atoms key.descriptor.atoms parts.1 t rest)
      (among_both t (filter_map type_at key.scope.atoms) (filter_map type_at key.descriptor.atoms) h)

  in_keys : (keys : List Key) → list_all (is_valid_key_of resolved) keys ≡ true → (t : TypeNo) → is_among t (flat_map named_by_key keys) ≡ true → is_type resolved t ≡ true
  in_keys [] all t h = none_among t h
  in_keys (key ∷ keys) all t h =
      ⊎_elim (λ here. in_key key (and_parts _ _ all).0 t here) (λ later. in_keys keys (and_parts _ _ all).1 t later) (among_both t (named_by_key key) (flat_map named_by_key keys) h)

module _ (resolved : Resolved) (valid : is_valid resolved ≡ true) where
  nodes_valid : are_valid_nodes 0 resolved.nodes ≡ true
  nodes_valid = (and_parts _ _ (and_parts _ _ (and_parts _ _ (and_parts _ _ (and_parts _ _ valid).0).0).0).0).0

  edges_valid : are_valid_edges (length resolved.nodes) 0 resolved.edges ≡ true
  edges_valid = (and_parts _ _ (and_parts _ _ (and_parts _ _ (and_parts _ _ (and_parts _ _ valid).0).0).0).0).1

  types_there : list_all (is_type resolved) resolved.guard.types ≡ true
  types_there = (and_parts _ _ (and_parts _ _ (and_parts _ _ valid).0).0).1

  keys_valid : list_all (is_valid_key_of resolved) resolved.guard.keys ≡ true
  keys_valid = (and_parts _ _ valid).1

  lower_node : (t : TypeNo) (place : ℕ) (by : TypeNo) → place ≤ length resolved.nodes → place ≤ rank resolved by → IsBelow false place t → IsLower resolved t by
  lower_node t place by few h found =
      let less = found.below in
      subst (λ (z : TypeNo). IsLower resolved z by) (sym found.is) (record { less = omega (arith, less, h); there = lt-ltb found.number (length resolved.nodes) (omega (arith, less, few)) })

  lower_edge : (t : TypeNo) (place : ℕ) → place < length resolved.edges → IsBelow true place t → IsLower resolved t (Edge place)
  lower_edge t place few found =
      let less = found.below in
      subst (λ (z : TypeNo). IsLower resolved z (Edge place)) (sym found.is) (record { less = omega (arith, less); there = lt-ltb found.number (length resolved.edges) (omega (arith, less, few)) })

  by_node : (place : ℕ) (t : TypeNo) (o : Option (NodeType Leaf)) → slice_get resolved.nodes place ≡ o → is_among t (option_map_or (λ (type : NodeType Leaf). types_in false type.spec) o []) ≡ true
      → IsLower resolved t (Node place)
  by_node place t None at h = none_among t h
  by_node place t (Some type) at h =
      let few = slice_get_within resolved.nodes place type at in
      lower_node t place (Node place) (omega (arith, few)) (omega arith) (in_spec false place type.spec (subst (λ n. is_valid_spec n type.spec ≡ true) (omega arith) (valid_node 0 resolved.nodes place type nodes_valid at)) t h)

  by_edge : (place : ℕ) (t : TypeNo) (o : Option (EdgeType Leaf)) → slice_get resolved.edges place ≡ o → is_among t (option_map_or named_by_edge o []) ≡ true → IsLower resolved t (Edge place)
  by_edge place t None at h = none_among t h
  by_edge place t (Some type) at h =
      let few = slice_get_within resolved.edges place type at in
      let parts : AreValid (length resolved.nodes) place type = subst (λ n. AreValid (length resolved.nodes) n type) (omega arith) (valid_edge (length resolved.nodes) 0 resolved.edges place type edges_valid at) in
      let end : IsBelow false (length resolved.nodes) t → IsLower resolved t (Edge place) = λ found. lower_node t (length resolved.nodes) (Edge place) (omega arith) (omega arith) found in
      ⊎_elim
      (λ middle. lower_edge t place few (in_spec true place type.middle parts.middle t middle))
      (λ ends. ⊎_elim (λ source. end (in_spec false (length resolved.nodes) type.source parts.source t source)) (λ target. end (in_spec false (length resolved.nodes) type.target parts.target t target))
      (among_both t (types_in false type.source) (types_in false type.target) ends))
      (among_both t (types_in true type.middle) (types_in false type.source ++ types_in false type.target) h)

  pub lower : (by t : TypeNo) → is_among t (named_by resolved by) ≡ true → IsLower resolved t by
  lower (Node place) t h = by_node place t (slice_get resolved.nodes place) refl h
  lower (Edge place) t h = by_edge place t (slice_get resolved.edges place) refl h

  -- ---- the first types

  pub first_there : (t : TypeNo) → is_among t (first_types resolved) ≡ true → is_type resolved t ≡ true
  first_there t h =
      ⊎_elim (λ listed. in_all resolved resolved.guard.types types_there t listed) (λ asked. in_keys resolved resolved.guard.keys keys_valid t asked)
      (among_both t resolved.guard.types (flat_map named_by_key resolved.guard.keys) h)
