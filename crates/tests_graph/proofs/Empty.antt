-- The graph without elements conforms, and an index without rows stands for it.
use Rattle.std.proofs.Common.{◌≡◌, ℕ, zero, suc, ◌+◌, ◌<◌, Bool, true, false, List, [], ◌∷◌, ◌++◌, length, Option, Some, None, refl, sym, ap, ◌∙◌, arith}
use Rattle.std.specs.Prelude.{slice_get, filter, if◌then◌else◌}
use Rattle.std.specs.List.{list_any, list_all}
use Rattle.std.proofs.lemmas.Bool.{and_parts, leb-true}
use Rattle.pgs_base.specs.declared.element.Elem.{Elem}
use Rattle.pgs_base.specs.Graph.{empty_graph}
use Rattle.pgs_syntax.specs.declared.key.Key.{Key}
use Rattle.pgs_syntax.specs.declared.resolved.Resolved.{Resolved}
use Rattle.pgs_syntax.specs.KeyValues.{starts_at, is_in_scope, key_values}
use Rattle.pgs_syntax.specs.Matches.{matches, assignments, holds}
use Rattle.pgs_syntax.specs.Valid.{is_valid, is_valid_key_of}
use Rattle.pgs_violation.specs.Violations.{where_asked, where_bounded, key_violations, keys_violations, violations, conforms}
use Rattle.pgs_violation.proofs.FirstOf.{empty_list}
use Rattle.pgs_match.proofs.Values.{scope_valid}
use Rattle.pgs_keyindex.specs.Index.{IndexState}
use Rattle.pgs_keyindex.specs.Standing.{key_at, exclusive_keys}
use Rattle.pgs_keyindex.specs.Rows.{KeyRows, values_at}
use Rattle.tests_graph.specs.Kept.{IsKept}

asked_none : (b : Bool) → where_asked b [] ≡ []
asked_none true = refl
asked_none false = refl

bounded_none : (o : Option (ℕ × ℕ)) → where_bounded o (λ bounds. []) ≡ []
bounded_none None = refl
bounded_none (Some bounds) = refl

key_none : (resolved : Resolved) (number : ℕ) (key : Key) → key_violations resolved empty_graph number key ≡ []
key_none resolved number key = λ i.
    asked_none key.qualifiers.mandatory i ++ asked_none key.qualifiers.singleton i ++ asked_none key.qualifiers.exclusive i ++ bounded_none key.qualifiers.count i

keys_none : (resolved : Resolved) (number : ℕ) (keys : List Key) → keys_violations resolved empty_graph number keys ≡ []
keys_none resolved number [] = refl
keys_none resolved number (key ∷ keys) = λ i. key_none resolved number key i ++ keys_none resolved (number + 1) keys i

no_violation : (resolved : Resolved) → violations resolved empty_graph ≡ []
no_violation resolved = λ i. asked_none resolved.guard.strict i ++ keys_none resolved 1 resolved.guard.keys i

no_assignment : (edge_vars : List Bool) → 0 < length edge_vars → assignments empty_graph edge_vars ≡ []
no_assignment [] some = absurd (omega arith)
no_assignment (true ∷ edge_vars) some = refl
no_assignment (false ∷ edge_vars) some = refl

at_passes : {X : Type 0} (test : X → Bool) (xs : List X) (place : ℕ) (x : X) → list_all test xs ≡ true → slice_get xs place ≡ Some x → test x ≡ true
at_passes test [] place x all at = cc
at_passes test (y ∷ ys) zero x all at = let same : y ≡ x = cc in ap test (sym same) ∙ (and_parts _ _ all).0
at_passes test (y ∷ ys) (suc place) x all at = at_passes test ys place x (and_parts _ _ all).1 at

module _ (resolved : Resolved) (valid : is_valid resolved ≡ true) where
  key_valid : (number : ℕ) (key : Key) → key_at resolved.guard.keys number ≡ Some key → is_valid_key_of resolved key ≡ true
  key_valid zero key at = cc
  key_valid (suc place) key at = at_passes (is_valid_key_of resolved) resolved.guard.keys place key (and_parts _ _ valid).1 at

  outside : (key : Key) (elem : Elem) → is_valid_key_of resolved key ≡ true → is_in_scope resolved empty_graph key elem ≡ false
  outside key elem of =
      let pattern = scope_valid key (and_parts _ _ (and_parts _ _ of).0).0 in
      let some = leb-true 1 (length key.scope.edge_vars) (and_parts _ _ (and_parts _ _ (and_parts _ _ (and_parts _ _ (and_parts _ _ pattern).0).0).0).0).0 in
      λ i. list_any (starts_at elem) (unmatched (no_assignment key.scope.edge_vars some) i)
    where
      unmatched : assignments empty_graph key.scope.edge_vars ≡ [] → matches resolved empty_graph key.scope ≡ []
      unmatched none = ap (λ all. filter_of all) none
        where
          filter_of : List (List Elem) → List (List Elem)
          filter_of all = filter (λ elems. list_all (holds resolved empty_graph elems) key.scope.atoms) all

  -- the empty graph with an index of these keys without rows
  pub empty_kept : (index : IndexState) → index.exclusive ≡ exclusive_keys resolved.guard.keys → index.rows ≡ [] → IsKept resolved empty_graph index
  empty_kept index exclusive rows = record {
    conforms = (empty_list (violations resolved empty_graph)).1 (no_violation resolved);
    stands = record {
      exclusive = exclusive;
      rows = λ number key at elem.
          ap (λ (r : KeyRows). values_at r number elem) rows
          ∙ sym (ap (λ b. if b then Some (key_values resolved empty_graph key elem) else None) (outside key elem (key_valid number key at)));
    };
  }
