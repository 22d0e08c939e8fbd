-- The violations of a key from its rows are those of its scope and its key values.
use Rattle.std.proofs.Common.{◌≡◌, ℕ, true, Option, Some, None, List, [], ◌∷◌, ◌++◌, map, append_assoc, refl, sym, ap, ◌∙◌}
use Rattle.std.specs.Prelude.{filter_map, slice_get}
use Rattle.std.specs.List.{cons_option}
use Rattle.pgs_base.specs.declared.element.Elem.{Elem}
use Rattle.pgs_base.specs.declared.part.Part.{Part}
use Rattle.pgs_base.specs.Graph.{Graph, is_graph}
use Rattle.pgs_base.specs.Order.{ascends, elem_cmp}
use Rattle.pgs_syntax.specs.declared.key.Key.{Key}
use Rattle.pgs_syntax.specs.declared.resolved.Resolved.{Resolved}
use Rattle.pgs_syntax.specs.KeyValues.{scope_of, key_values}
use Rattle.pgs_syntax.proofs.InOrder.{scope_ascends}
use Rattle.pgs_violation.specs.Violations.{mandatory_violation, singleton_violation, sharing, exclusive_violation, count_violation, where_asked, where_bounded, key_violations}
use Rattle.pgs_scratch.specs.declared.key_row.KeyRow.{KeyRow}
use Rattle.pgs_scratch.specs.Rows.{row_of, missing_value, several_values, shared_value, shared_values, count_of_row, rows_violations}
use Rattle.pgs_scratch.specs.Judged.{indexed_row, scope_row, scope_rows}
use Rattle.pgs_scratch.proofs.Ordered.{later_are_after}

-- what four equal parts make is equal
ap₄ : {A B C D E : Type 0} (f : A → B → C → D → E) {a a' : A} {b b' : B} {c c' : C} {d d' : D} → a ≡ a' → b ≡ b' → c ≡ c' → d ≡ d' →
    f a b c d ≡ f a' b' c' d'
ap₄ f p q r s = λ i. f (p i) (q i) (r i) (s i)

module _ (number : ℕ) (values : Elem → List (List Part)) where
  missing_same : (elems : List Elem) → filter_map (missing_value number) (map (row_of values) elems) ≡ filter_map (mandatory_violation number values) elems
  missing_same [] = refl
  missing_same (elem ∷ elems) = ap (cons_option (mandatory_violation number values elem)) (missing_same elems)

  several_same : (elems : List Elem) → filter_map (several_values number) (map (row_of values) elems) ≡ filter_map (singleton_violation number values) elems
  several_same [] = refl
  several_same (elem ∷ elems) = ap (cons_option (singleton_violation number values elem)) (several_same elems)

  sharers_same : (elem : Elem) (later : List Elem) → filter_map (shared_value number (row_of values elem)) (map (row_of values) later) ≡ filter_map (sharing number values elem) later
  sharers_same elem [] = refl
  sharers_same elem (other ∷ later) = ap (cons_option (sharing number values elem other)) (sharers_same elem later)

  shared_same : (before elems : List Elem) → ascends elem_cmp (before ++ elems) ≡ true →
      shared_values number (map (row_of values) elems) ≡ filter_map (exclusive_violation number (before ++ elems) values) elems
  shared_same before [] h = refl
  shared_same before (elem ∷ elems) h =
      let moved = append_assoc before (elem ∷ []) elems in
      let rest = shared_same (before ++ elem ∷ []) elems (ap (ascends elem_cmp) moved ∙ h) in
      ap (λ found. cons_option (slice_get found 0) (shared_values number (map (row_of values) elems)))
      (sharers_same elem elems ∙ ap (filter_map (sharing number values elem)) (sym (later_are_after before elem elems h)))
      ∙ ap (cons_option (exclusive_violation number (before ++ elem ∷ elems) values elem))
      (rest ∙ ap (λ scope. filter_map (exclusive_violation number scope values) elems) moved)

  counts_same : (bounds : ℕ × ℕ) (elems : List Elem) →
      filter_map (count_of_row number bounds) (map (row_of values) elems) ≡ filter_map (count_violation number values bounds) elems
  counts_same bounds [] = refl
  counts_same bounds (elem ∷ elems) = ap (cons_option (count_violation number values bounds elem)) (counts_same bounds elems)

  bounded_same : (bounds : Option (ℕ × ℕ)) (elems : List Elem) →
      where_bounded bounds (λ bounds. filter_map (count_of_row number bounds) (map (row_of values) elems))
      ≡ where_bounded bounds (λ bounds. filter_map (count_violation number values bounds) elems)
  bounded_same None elems = refl
  bounded_same (Some bounds) elems = counts_same bounds elems

  indexed_same : (elems : List Elem) → map (indexed_row number) (map (row_of values) elems) ≡ map (scope_row number values) elems
  indexed_same [] = refl
  indexed_same (elem ∷ elems) = ap (λ rows. scope_row number values elem ∷ rows) (indexed_same elems)

module _ (resolved : Resolved) (g : Graph) (graph : is_graph g ≡ true) (number : ℕ) (key : Key) where
  abbrev pub rows_of : List KeyRow
  rows_of = map (row_of (key_values resolved g key)) (scope_of resolved g key)

  elems_back : (values : Elem → List (List Part)) (elems : List Elem) → map (λ (row : KeyRow). row.elem) (map (row_of values) elems) ≡ elems
  elems_back values [] = refl
  elems_back values (elem ∷ elems) = ap (λ rest. elem ∷ rest) (elems_back values elems)

  pub rows_ascend : (rows : List KeyRow) → rows ≡ rows_of → ascends elem_cmp (map (λ (row : KeyRow). row.elem) rows) ≡ true
  rows_ascend rows is =
      ap (λ xs. ascends elem_cmp (map (λ (row : KeyRow). row.elem) xs)) is
      ∙ ap (ascends elem_cmp) (elems_back (key_values resolved g key) (scope_of resolved g key)) ∙ scope_ascends g graph resolved key

  pub rows_are_scope : rows_violations key.qualifiers number rows_of ≡ key_violations resolved g number key
  rows_are_scope =
      let values = key_values resolved g key in
      let scope = scope_of resolved g key in
      ap₄ (λ missing several shared counted. where_asked key.qualifiers.mandatory missing ++ where_asked key.qualifiers.singleton several
      ++ where_asked key.qualifiers.exclusive shared ++ counted) (missing_same number values scope) (several_same number values scope)
      (shared_same number values [] scope (scope_ascends g graph resolved key)) (bounded_same number values key.qualifiers.count scope)

  -- as rows of an index they are those of the scope
  pub indexed_are_scope : (rows : List KeyRow) → rows ≡ rows_of → map (indexed_row number) rows ≡ scope_rows resolved g number key
  indexed_are_scope rows is = ap (map (indexed_row number)) is ∙ indexed_same number (key_values resolved g key) (scope_of resolved g key)
