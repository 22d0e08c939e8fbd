-- The rows of the scopes of all keys, one key after another, are the changes that lead from an index without rows.
use Rattle.std.proofs.Common.{◌≡◌, ℕ, suc, ◌+◌, Bool, true, false, cond, List, [], ◌∷◌, ◌++◌, map, filter, length, append_assoc, append-nil, Some, None, slice_get, refl, sym, ◌∙◌, ap, subst, arith}
use Rattle.std.specs.Prelude.{if◌then◌else◌}
use Rattle.pgs_base.specs.declared.element.Elem.{Elem}
use Rattle.pgs_base.specs.Graph.{Graph, empty_graph, is_graph}
use Rattle.pgs_syntax.specs.declared.key.Key.{Key}
use Rattle.pgs_syntax.specs.declared.resolved.Resolved.{Resolved}
use Rattle.pgs_syntax.specs.KeyValues.{is_in_scope, scope_of, key_values}
use Rattle.pgs_syntax.specs.Matches.{elements}
use Rattle.pgs_keyindex.specs.declared.change.KeyChange.{KeyChange}
use Rattle.pgs_keyindex.specs.Standing.{key_at, values_in_scope}
use Rattle.pgs_check.specs.Rows.{change_of}
use Rattle.pgs_check.specs.Standing.{AreChanges}
use Rattle.pgs_check.proofs.FromNothing.{rows_of_scope}
use Rattle.pgs_check.proofs.Indexed.{no_changes, more_changes}
use Rattle.pgs_scratch.specs.Judged.{scope_row, scope_rows, keys_rows}

module _ (resolved : Resolved) (h : Graph) (graph : is_graph h ≡ true) where
  module _ (number : ℕ) (key : Key) where
    abbrev inside : Elem → Bool
    inside = is_in_scope resolved h key

    abbrev own : Elem → KeyChange
    own = scope_row number (key_values resolved h key)

    abbrev change : Elem → KeyChange
    change = change_of number (values_in_scope resolved h key)

    abbrev where_inside : Elem → Bool → KeyChange
    where_inside elem b = record { key = number; elem = elem; values = if b then Some (key_values resolved h key elem) else None }

    kept : (elems : List Elem) → map own (filter inside elems) ≡ map change (filter inside elems)
    kept [] = refl
    kept (elem ∷ elems) = by (inside elem) refl (kept elems)
      where
        by : (b : Bool) → inside elem ≡ b → map own (filter inside elems) ≡ map change (filter inside elems) →
            map own (cond b (elem ∷ filter inside elems) (filter inside elems)) ≡ map change (cond b (elem ∷ filter inside elems) (filter inside elems))
        by true is rest = ap (λ row. row ∷ map own (filter inside elems)) (ap (where_inside elem) (sym is)) ∙ ap (λ rows. change elem ∷ rows) rest
        by false is rest = rest

    -- the rows of a scope are what its elements have there
    rows_are_changes : scope_rows resolved h number key ≡ map change (scope_of resolved h key)
    rows_are_changes = kept (elements h false ++ elements h true)

  module _ (all : List Key) where
    abbrev AreUpTo : ℕ → List KeyChange → Type 0
    AreUpTo = AreChanges resolved empty_graph h all

    -- the rows of the keys that are left, behind those of the keys before
    with_rows : (upto : ℕ) (keys : List Key) (rows : List KeyChange) →
        ((place : ℕ) (key : Key) → slice_get keys place ≡ Some key → key_at all (upto + 1 + place) ≡ Some key) → AreUpTo upto rows →
        AreUpTo (upto + length keys) (rows ++ keys_rows resolved h (upto + 1) keys)
    with_rows upto [] rows at are =
        let none : upto ≡ upto + 0 = omega arith in
        subst (λ n. AreUpTo n (rows ++ [])) none (subst (AreUpTo upto) (sym (append-nil rows)) are)
    with_rows upto (key ∷ keys) rows at are =
        let first : upto + 1 + 0 ≡ upto + 1 = omega arith in
        let next = more_changes resolved empty_graph h all upto key (ap (key_at all) (sym first) ∙ at 0 key refl) rows (scope_rows resolved h (upto + 1) key) are
        (rows_of_scope resolved h graph key (upto + 1) (scope_rows resolved h (upto + 1) key) (rows_are_changes (upto + 1) key)) in
        let rest = with_rows (upto + 1) keys (rows ++ scope_rows resolved h (upto + 1) key) later next in
        let count : upto + 1 + length keys ≡ upto + length (key ∷ keys) = omega arith in
        subst (λ n. AreUpTo n (rows ++ keys_rows resolved h (upto + 1) (key ∷ keys))) count
        (subst (AreUpTo (upto + 1 + length keys)) (append_assoc rows (scope_rows resolved h (upto + 1) key) (keys_rows resolved h (upto + 1 + 1) keys)) rest)
      where
        later : (place : ℕ) (other : Key) → slice_get keys place ≡ Some other → key_at all (upto + 1 + 1 + place) ≡ Some other
        later place other is =
            let number : upto + 1 + 1 + place ≡ upto + 1 + suc place = omega arith in ap (key_at all) number ∙ at (suc place) other is

    pub rows_make_changes : (rows : List KeyChange) → rows ≡ keys_rows resolved h 1 all → AreChanges resolved empty_graph h all (length all) rows
    rows_make_changes rows is =
        let count : 0 + length all ≡ length all = omega arith in
        subst (AreUpTo (length all)) (sym is)
        (subst (λ n. AreUpTo n (keys_rows resolved h 1 all)) count
        (with_rows 0 all [] (λ place key found. ap (key_at all) (numbered place) ∙ found) (no_changes resolved empty_graph h all [] refl)))
      where
        numbered : (place : ℕ) → 0 + 1 + place ≡ suc place
        numbered place = omega arith
