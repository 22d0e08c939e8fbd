-- Where a violation in the list of a graph's violations comes from, and what it says.
use Rattle.std.proofs.Common.{◌≡◌, ℕ, zero, suc, ◌+◌, Bool, true, false, ⊎_elim, ◌⊎◌, inl, inr, List, [], ◌∷◌, ◌++◌, Option, Some, None, slice_get, refl, sym, subst, arith}
use Rattle.std.specs.Prelude.{Contains, filter_map}
use Rattle.std.proofs.lemmas.List.Elements.{Contains-append_left, Contains-append_right, Contains-append_cases}
use Rattle.pgs_base.specs.declared.element.NodeId.{NodeId}
use Rattle.pgs_base.specs.declared.element.EdgeId.{EdgeId}
use Rattle.pgs_base.specs.declared.element.Elem.{Elem}
use Rattle.pgs_base.specs.declared.part.Part.{Part}
use Rattle.pgs_base.specs.declared.row.NodeRow.{NodeRow}
use Rattle.pgs_base.specs.declared.row.EdgeRow.{EdgeRow}
use Rattle.pgs_base.specs.Graph.{Graph}
use Rattle.pgs_syntax.specs.declared.key.Key.{Key}
use Rattle.pgs_syntax.specs.declared.resolved.Resolved.{Resolved}
use Rattle.pgs_syntax.specs.KeyValues.{scope_of, key_values}
use Rattle.pgs_syntax.proofs.Members.{contains_none, given_found, given_given}
use Rattle.pgs_violation.specs.declared.violation.Violation.{Violation}
use Rattle.pgs_violation.specs.Meaning.{IsKeyOf}
use Rattle.pgs_violation.specs.Violations.{untyped_node, untyped_edge, mandatory_violation, two_least, singleton_violation, exclusive_violation, count_outside, count_violation, where_asked, where_bounded, key_violations, keys_violations, violations}

-- ---- the six sources of violations

asked_found : (b : Bool) (vs : List Violation) (v : Violation) → Contains (where_asked b vs) v → (b ≡ true) × Contains vs v
asked_found true vs v h = (refl, h)
asked_found false vs v h = absurd (contains_none v h)

asked_given : (b : Bool) (vs : List Violation) (v : Violation) → b ≡ true → Contains vs v → Contains (where_asked b vs) v
asked_given true vs v asked h = h
asked_given false vs v asked h = cc

bounded_found : (o : Option (ℕ × ℕ)) (vs : ℕ × ℕ → List Violation) (v : Violation) → Contains (where_bounded o vs) v →
    (bounds : ℕ × ℕ) × (o ≡ Some bounds) × Contains (vs bounds) v
bounded_found None vs v h = absurd (contains_none v h)
bounded_found (Some bounds) vs v h = (bounds, refl, h)

module _ (resolved : Resolved) (g : Graph) where
  -- of an untyped node, of an untyped edge, and of an element of a key's scope that has no key value, several, a shared one, or a number
  -- of them that isn't within the key's bounds
  pub data Origin (v : Violation) : Type 0 where
    of_node : (node : NodeId × NodeRow) → resolved.guard.strict ≡ true → Contains g.nodes node → untyped_node resolved node ≡ Some v → Origin v
    of_edge : (edge : EdgeId × EdgeRow) → resolved.guard.strict ≡ true → Contains g.edges edge → untyped_edge resolved g edge ≡ Some v → Origin v
    missing : (number : ℕ) (key : Key) (elem : Elem) → IsKeyOf resolved number key → key.qualifiers.mandatory ≡ true → Contains (scope_of resolved g key) elem →
        mandatory_violation number (key_values resolved g key) elem ≡ Some v → Origin v
    several : (number : ℕ) (key : Key) (elem : Elem) → IsKeyOf resolved number key → key.qualifiers.singleton ≡ true → Contains (scope_of resolved g key) elem →
        two_least number elem (key_values resolved g key elem) ≡ Some v → Origin v
    shared : (number : ℕ) (key : Key) (elem : Elem) → IsKeyOf resolved number key → key.qualifiers.exclusive ≡ true → Contains (scope_of resolved g key) elem →
        exclusive_violation number (scope_of resolved g key) (key_values resolved g key) elem ≡ Some v → Origin v
    counted : (number : ℕ) (key : Key) (bounds : ℕ × ℕ) (elem : Elem) → IsKeyOf resolved number key → key.qualifiers.count ≡ Some bounds →
        Contains (scope_of resolved g key) elem → count_outside number bounds elem (key_values resolved g key elem) ≡ Some v → Origin v

  keys_found : (first : ℕ) (keys : List Key) (v : Violation) → Contains (keys_violations resolved g first keys) v →
      (place : ℕ) × (key : Key) × (slice_get keys place ≡ Some key) × Contains (key_violations resolved g (place + first) key) v
  keys_found first [] v h = absurd (contains_none v h)
  keys_found first (key ∷ keys) v h =
      ⊎_elim (λ here. (0, key, refl, subst (λ n. Contains (key_violations resolved g n key) v) (omega arith) here))
      (λ later. let rest = keys_found (first + 1) keys v later in
      (suc rest.0, rest.1, rest.2, subst (λ n. Contains (key_violations resolved g n rest.1) v) (omega arith) rest.3))
      (Contains-append_cases (key_violations resolved g first key) (keys_violations resolved g (first + 1) keys) v h)

  keys_given : (first : ℕ) (keys : List Key) (v : Violation) (place : ℕ) (key : Key) → slice_get keys place ≡ Some key →
      Contains (key_violations resolved g (place + first) key) v → Contains (keys_violations resolved g first keys) v
  keys_given first [] v place key at h = cc
  keys_given first (own ∷ keys) v zero key at h =
      let same : own ≡ key = cc in
      Contains-append_left (key_violations resolved g first own) (keys_violations resolved g (first + 1) keys) v
      (subst (λ k. Contains (key_violations resolved g first k) v) (sym same) (subst (λ n. Contains (key_violations resolved g n key) v) (omega arith) h))
  keys_given first (own ∷ keys) v (suc place) key at h =
      Contains-append_right (key_violations resolved g first own) (keys_violations resolved g (first + 1) keys) v
      (keys_given (first + 1) keys v place key at (subst (λ n. Contains (key_violations resolved g n key) v) (omega arith) h))

  module _ (number : ℕ) (key : Key) where
    abbrev scope : List Elem
    scope = scope_of resolved g key

    abbrev values : Elem → List (List Part)
    values = key_values resolved g key

    abbrev of_mandatory : List Violation
    of_mandatory = where_asked key.qualifiers.mandatory (filter_map (mandatory_violation number values) scope)

    abbrev of_singleton : List Violation
    of_singleton = where_asked key.qualifiers.singleton (filter_map (singleton_violation number values) scope)

    abbrev of_exclusive : List Violation
    of_exclusive = where_asked key.qualifiers.exclusive (filter_map (exclusive_violation number scope values) scope)

    abbrev of_bounds : ℕ × ℕ → List Violation
    of_bounds bounds = filter_map (count_violation number values bounds) scope

    abbrev of_count : List Violation
    of_count = where_bounded key.qualifiers.count of_bounds

    uncounted_origin : (v : Violation) → IsKeyOf resolved number key → Contains (of_mandatory ++ of_singleton ++ of_exclusive) v → Origin v
    uncounted_origin v is h =
        ⊎_elim (λ front. ⊎_elim
        (λ first. let asked = asked_found key.qualifiers.mandatory _ v first in
        let found = given_found (mandatory_violation number values) scope v asked.1 in missing number key found.0 is asked.0 found.1 found.2)
        (λ second. let asked = asked_found key.qualifiers.singleton _ v second in
        let found = given_found (singleton_violation number values) scope v asked.1 in several number key found.0 is asked.0 found.1 found.2)
        (Contains-append_cases of_mandatory of_singleton v front))
        (λ last. let asked = asked_found key.qualifiers.exclusive _ v last in
        let found = given_found (exclusive_violation number scope values) scope v asked.1 in shared number key found.0 is asked.0 found.1 found.2)
        (Contains-append_cases (of_mandatory ++ of_singleton) of_exclusive v h)

    key_origin : (v : Violation) → IsKeyOf resolved number key → Contains (key_violations resolved g number key) v → Origin v
    key_origin v is h =
        ⊎_elim (λ front. uncounted_origin v is front)
        (λ last. let bounded = bounded_found key.qualifiers.count of_bounds v last in
        let found = given_found (count_violation number values bounded.0) scope v bounded.2 in
        counted number key bounded.0 found.0 is bounded.1 found.1 found.2)
        (Contains-append_cases (of_mandatory ++ of_singleton ++ of_exclusive) of_count v h)

    key_listed : (v : Violation) → Contains (of_mandatory ++ of_singleton) v ⊎ Contains of_exclusive v → Contains (key_violations resolved g number key) v
    key_listed v h =
        Contains-append_left (of_mandatory ++ of_singleton ++ of_exclusive) of_count v
        (⊎_elim (λ front. Contains-append_left (of_mandatory ++ of_singleton) of_exclusive v front)
        (λ last. Contains-append_right (of_mandatory ++ of_singleton) of_exclusive v last) h)

    count_listed : (v : Violation) → Contains of_count v → Contains (key_violations resolved g number key) v
    count_listed v h = Contains-append_right (of_mandatory ++ of_singleton ++ of_exclusive) of_count v h

  abbrev untyped_nodes : List Violation
  untyped_nodes = filter_map (untyped_node resolved) g.nodes

  abbrev untyped_edges : List Violation
  untyped_edges = filter_map (untyped_edge resolved g) g.edges

  abbrev untyped : List Violation
  untyped = where_asked resolved.guard.strict (untyped_nodes ++ untyped_edges)

  abbrev of_keys : List Violation
  of_keys = keys_violations resolved g 1 resolved.guard.keys

  pub origin : (v : Violation) → Contains (violations resolved g) v → Origin v
  origin v h =
      ⊎_elim (λ front. let asked = asked_found resolved.guard.strict _ v front in ⊎_elim
      (λ first. let found = given_found (untyped_node resolved) g.nodes v first in of_node found.0 asked.0 found.1 found.2)
      (λ second. let found = given_found (untyped_edge resolved g) g.edges v second in of_edge found.0 asked.0 found.1 found.2)
      (Contains-append_cases untyped_nodes untyped_edges v asked.1))
      (λ last. let found = keys_found 1 resolved.guard.keys v last in
      key_origin (found.0 + 1) found.1 v (found.0, refl, found.2) found.3)
      (Contains-append_cases untyped of_keys v h)

  in_keys : (number : ℕ) (key : Key) (v : Violation) → IsKeyOf resolved number key → Contains (key_violations resolved g number key) v → Contains (violations resolved g) v
  in_keys number key v (place, same, at) h =
      Contains-append_right untyped of_keys v
      (keys_given 1 resolved.guard.keys v place key at (subst (λ n. Contains (key_violations resolved g n key) v) same h))

  pub listed : (v : Violation) → Origin v → Contains (violations resolved g) v
  listed v (of_node node strict there gives) =
      Contains-append_left untyped of_keys v (asked_given resolved.guard.strict _ v strict
      (Contains-append_left untyped_nodes untyped_edges v (given_given (untyped_node resolved) g.nodes node v there gives)))
  listed v (of_edge edge strict there gives) =
      Contains-append_left untyped of_keys v (asked_given resolved.guard.strict _ v strict
      (Contains-append_right untyped_nodes untyped_edges v (given_given (untyped_edge resolved g) g.edges edge v there gives)))
  listed v (missing number key elem is asked there gives) =
      in_keys number key v is (key_listed number key v (inl (Contains-append_left (of_mandatory number key) (of_singleton number key) v
      (asked_given key.qualifiers.mandatory _ v asked (given_given (mandatory_violation number (values number key)) (scope number key) elem v there gives)))))
  listed v (several number key elem is asked there gives) =
      in_keys number key v is (key_listed number key v (inl (Contains-append_right (of_mandatory number key) (of_singleton number key) v
      (asked_given key.qualifiers.singleton _ v asked (given_given (singleton_violation number (values number key)) (scope number key) elem v there gives)))))
  listed v (shared number key elem is asked there gives) =
      in_keys number key v is (key_listed number key v (inr
      (asked_given key.qualifiers.exclusive _ v asked (given_given (exclusive_violation number (scope number key) (values number key)) (scope number key) elem v there gives))))
  listed v (counted number key bounds elem is asked there gives) =
      in_keys number key v is (count_listed number key v
      (subst (λ o. Contains (where_bounded o (of_bounds number key)) v) (sym asked)
      (given_given (count_violation number (values number key) bounds) (scope number key) elem v there gives)))
