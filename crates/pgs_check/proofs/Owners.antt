-- Each tuple of an exclusive key has one owner beside the changed elements, or none.
use Rattle.std.proofs.Common.{◌≡◌, ℕ, zero, suc, Bool, true, false, cond, ⊎_elim, List, [], ◌∷◌, slice_get, Option, Some, refl, sym, ◌∙◌, ap, true≢false, Ordering, Less, Equal, Greater}
use Rattle.std.specs.Prelude.{Contains, ◌&&◌, not, find, filter_map}
use Rattle.std.specs.Ordering.{ordering_reverse}
use Rattle.std.specs.Option.{option_map_or}
use Rattle.std.proofs.lemmas.Bool.{and_parts, and_from}
use Rattle.pgs_base.specs.declared.element.Elem.{Elem}
use Rattle.pgs_base.specs.declared.part.Part.{Part}
use Rattle.pgs_base.specs.Graph.{Graph, is_graph}
use Rattle.pgs_base.specs.Order.{elem_cmp}
use Rattle.pgs_base.specs.OrderLaws.{elem_cmp_total, exact_elem}
use Rattle.pgs_syntax.specs.declared.key.Key.{Key}
use Rattle.pgs_syntax.specs.declared.resolved.Resolved.{Resolved}
use Rattle.pgs_syntax.specs.KeyValues.{scope_of, key_values}
use Rattle.pgs_syntax.proofs.Members.{contains_none, contains_cases}
use Rattle.pgs_violation.specs.Violations.{exclusive_violation, key_violations}
use Rattle.pgs_keyindex.specs.Rows.{KeyRows, values_at, has_tuple, has_value, is_exclusive}
use Rattle.pgs_keyindex.specs.Standing.{key_at, values_in_scope, exclusive_keys}
use Rattle.pgs_check_affected.specs.Local.{is_one_of}
use Rattle.pgs_check.specs.Clashes.{IsOwner}
use Rattle.pgs_check.proofs.Indexed.{shared_nothing}
use Rattle.pgs_check.proofs.Shared.{Values, holds, holds_found, shared_none}

find_passes : {X : Type 0} (test : X → Bool) (xs : List X) (x : X) → find test xs ≡ Some x → test x ≡ true
find_passes test [] x h = cc
find_passes test (y ∷ ys) x h = by (test y) refl h (find_passes test ys x)
  where
    by : (b : Bool) → test y ≡ b → cond b (Some y) (find test ys) ≡ Some x → (find test ys ≡ Some x → test x ≡ true) → test x ≡ true
    by true is e rest = let same : y ≡ x = cc in ap test (sym same) ∙ is
    by false is e rest = rest e

find_there : {X : Type 0} (test : X → Bool) (xs : List X) (x : X) → Contains xs x → test x ≡ true → (y : X) × (find test xs ≡ Some y)
find_there test [] x h passes = absurd (contains_none x h)
find_there {X} test (y ∷ ys) x h passes = by (test y) refl (λ later. find_there test ys x later passes)
  where
    by : (b : Bool) → test y ≡ b → (Contains ys x → (z : X) × (find test ys ≡ Some z)) → (z : X) × (cond b (Some y) (find test ys) ≡ Some z)
    by true is rest = (y, refl)
    by false is rest = ⊎_elim (λ same. absurd (true≢false (sym passes ∙ ap test (sym same) ∙ is))) rest (contains_cases y ys x h)

not_true : (b : Bool) → not b ≡ true → b ≡ false
not_true true h = absurd (true≢false (sym h))
not_true false h = refl

module _ (resolved : Resolved) (g : Graph) (graph : is_graph g ≡ true) (key : Key) (number : ℕ) (elems : List Elem) where
  abbrev old : Values
  old = values_in_scope resolved g key

  abbrev owns_it : List Part → Elem → Bool
  owns_it tuple elem = holds old elem tuple && not (is_one_of elems elem)

  abbrev pub owner_of : List Part → Option Elem
  owner_of tuple = find (owns_it tuple) (scope_of resolved g key)

  module _ (index : KeyRows) (stands : (elem : Elem) → values_at index number elem ≡ old elem) (asked : key.qualifiers.exclusive ≡ true)
      (none : key_violations resolved g number key ≡ []) where
    -- no two elements hold one tuple
    one_holder : (x y : Elem) (tuple : List Part) → holds old x tuple ≡ true → holds old y tuple ≡ true → x ≡ y
    one_holder x y tuple one other = by (elem_cmp x y) refl
      where
        nothing : filter_map (exclusive_violation number (scope_of resolved g key) (key_values resolved g key)) (scope_of resolved g key) ≡ []
        nothing = shared_nothing resolved g number key asked none

        by : (o : Ordering) → elem_cmp x y ≡ o → x ≡ y
        by Less is = absurd (shared_none resolved g key graph number nothing x y tuple (record { less = is; one = one; other = other }))
        by Equal is = exact_elem x y is
        by Greater is =
            absurd (shared_none resolved g key graph number nothing y x tuple
            (record { less = elem_cmp_total.antisymm y x ∙ ap ordering_reverse is; one = other; other = one }))

    had : (elem : Elem) (tuple : List Part) → has_value index number elem tuple ≡ holds old elem tuple
    had elem tuple = ap (λ o. option_map_or (has_tuple tuple) o false) (stands elem)

    pub owners_are : IsOwner index number elems owner_of
    owners_are tuple elem = (
      λ both.
          let has = sym (had elem tuple) ∙ both.0 in
          let found = find_there (owns_it tuple) (scope_of resolved g key) elem (holds_found resolved g key elem tuple has).0 (and_from _ _ has (ap not both.1)) in
          let parts = and_parts _ _ (find_passes (owns_it tuple) (scope_of resolved g key) found.0 found.1) in
          found.1 ∙ ap Some (one_holder found.0 elem tuple parts.0 has),
      λ e.
          let parts = and_parts _ _ (find_passes (owns_it tuple) (scope_of resolved g key) elem e) in
          (had elem tuple ∙ parts.0, not_true (is_one_of elems elem) parts.1),
    )

-- the key of a number is exclusive in the list of those that are
asked_at : (keys : List Key) (place : ℕ) (key : Key) → slice_get keys place ≡ Some key → key.qualifiers.exclusive ≡ true →
    option_map_or (λ asked. asked) (slice_get (exclusive_keys keys) place) false ≡ true
asked_at [] place key at asked = cc
asked_at (first ∷ keys) zero key at asked = let same : first ≡ key = cc in ap (λ (k : Key). k.qualifiers.exclusive) same ∙ asked
asked_at (first ∷ keys) (suc place) key at asked = asked_at keys place key at asked

pub exclusive_at : (keys : List Key) (number : ℕ) (key : Key) → key_at keys number ≡ Some key → key.qualifiers.exclusive ≡ true → is_exclusive (exclusive_keys keys) number ≡ true
exclusive_at keys zero key at asked = cc
exclusive_at keys (suc place) key at asked = asked_at keys place key at asked
