-- The rows of a key whose two patterns are one node variable each: what an element's rows tell of its place and its key values, and that the
-- rows of a change's altered elements are all that differ.
use Rattle.std.proofs.Common.{◌≡◌, ◌⊎◌, inl, inr, ⊎_elim, ℕ, suc, ◌+◌, ◌*◌, ◌<◌, ◌≤◌, Bool, true, false, ◌&&◌, ◌||◌, not, List, [], ◌∷◌, ◌++◌, map, filter, length, take, get_or, Option, Some, None, refl, sym, ◌∙◌, ap, subst, true≢false, arith}
use Rattle.std.specs.Prelude.{cond, option_and_then, option_map, if◌then◌else◌}
use Rattle.std.specs.Option.{option_map_or}
use Rattle.std.specs.List.{list_all, sum_by}
use Rattle.std.proofs.lemmas.Bool.{and_parts}
use Rattle.std.proofs.lemmas.List.{length-map}
use Rattle.std.proofs.lemmas.List.Kept.{IsStrictlySortedBy-filter}
use Rattle.std.proofs.lemmas.List.Sums.{sum_by-cons}
use Rattle.pgs_base.specs.declared.element.Elem.{Elem}
use Rattle.pgs_base.specs.declared.element.Elem.TheVariants.{Node, Edge}
use Rattle.pgs_base.specs.declared.part.Part.{Part}
use Rattle.pgs_base.specs.declared.part.Part.TheVariants as parts
use Rattle.pgs_base.specs.declared.row.NodeRow.{NodeRow}
use Rattle.pgs_base.specs.Graph.{Graph, node_at}
use Rattle.pgs_base.specs.Order.{elem_cmp}
use Rattle.pgs_base.specs.Pair.{value_at}
use Rattle.pgs_base.proofs.Ascending.{ascends_decides}
use Rattle.pgs_syntax.specs.declared.key.Key.{Key}
use Rattle.pgs_syntax.specs.declared.pattern.Expr.{Expr}
use Rattle.pgs_syntax.specs.declared.pattern.Expr.TheVariants.{Element, Property}
use Rattle.pgs_syntax.specs.declared.resolved.Resolved.{Resolved}
use Rattle.pgs_syntax.specs.KeyValues.{key_values}
use Rattle.pgs_syntax.specs.Matches.{carried}
use Rattle.pgs_syntax.specs.Valid.{is_edge_var, is_valid_key}
use Rattle.pgs_match.specs.Tests.{own_passes, pair_meets}
use Rattle.pgs_match.proofs.Values.{scope_valid}
use Rattle.pgs_keyindex.specs.declared.change.KeyChange.{KeyChange}
use Rattle.pgs_keyindex.specs.Standing.{values_in_scope}
use Rattle.pgs_check_affected.specs.declared.known.Known.{Known}
use Rattle.pgs_check_affected.specs.Changes.{IsChange, known_in}
use Rattle.pgs_check_affected.specs.Local.{is_one_of}
use Rattle.pgs_check_affected.specs.Unseen.{is_one_outcome, row_passes}
use Rattle.pgs_check_affected.proofs.Loops.{front_more}
use Rattle.pgs_check_affected.proofs.Locality.{carried_same}
use Rattle.pgs_check_affected.proofs.Unseen.{kept_one, one_outcome, one_value}
use Rattle.pgs_check.specs.Clashes.{tuples_of}
use Rattle.pgs_check.specs.Own.{IsLocal, own_part, own_tuple, own_tuples, values_by_row, keeps_part, keeps_tuples, is_altered, altered_to}
use Rattle.pgs_check.specs.Rows.{change_of}
use Rattle.pgs_check.specs.Standing.{AreRows}
use Rattle.pgs_check.proofs.Own.{absent_row, inside_row, outside_row, no_edge_stands}

-- ---- what is kept of a list, item by item

module _ {X Y : Type 0} (f : X → Y) (test : X → Bool) where
  nothing_more : (ys : List Y) → ys ++ [] ≡ ys
  nothing_more [] = refl
  nothing_more (y ∷ ys) = ap (λ rest. y ∷ rest) (nothing_more ys)

  kept_behind : (xs : List X) (x : X) → map f (filter test (xs ++ x ∷ [])) ≡ map f (filter test xs) ++ map f (filter test (x ∷ []))
  kept_behind [] x = refl
  kept_behind (y ∷ ys) x = by (test y) (kept_behind ys x)
    where
      by : (b : Bool) → map f (filter test (ys ++ x ∷ [])) ≡ map f (filter test ys) ++ map f (filter test (x ∷ [])) →
          map f (cond b (y ∷ filter test (ys ++ x ∷ [])) (filter test (ys ++ x ∷ []))) ≡ map f (cond b (y ∷ filter test ys) (filter test ys)) ++ map f (filter test (x ∷ []))
      by true rest = ap (λ zs. f y ∷ zs) rest
      by false rest = rest

  module _ (xs : List X) (i : ℕ) (x : X) (below : i < length xs) (is : x ≡ get_or xs i x) (before : List Y) (so_far : before ≡ map f (filter test (take i xs))) where
    one_more : map f (filter test (take (i + 1) xs)) ≡ map f (filter test (take i xs)) ++ map f (cond (test x) (x ∷ []) [])
    one_more = ap (λ front. map f (filter test front)) (front_more xs i x below (sym is)) ∙ kept_behind (take i xs) x

    pub next_kept : test x ≡ true → (after : List Y) → after ≡ before ++ f x ∷ [] → after ≡ map f (filter test (take (i + 1) xs))
    next_kept passes after put =
        put ∙ ap (λ ys. ys ++ f x ∷ []) so_far ∙ sym (one_more ∙ ap (λ b. map f (filter test (take i xs)) ++ map f (cond b (x ∷ []) [])) passes)

    pub next_left : test x ≡ false → before ≡ map f (filter test (take (i + 1) xs))
    next_left fails =
        so_far ∙ sym (one_more ∙ ap (λ b. map f (filter test (take i xs)) ++ map f (cond b (x ∷ []) [])) fails ∙ nothing_more (map f (filter test (take i xs))))

-- ---- an element that isn't altered

-- the rows of an element
abbrev rows_of : Elem → Option NodeRow → Option NodeRow → Bool → Known
rows_of elem before after keeps = record { elem = elem; before = before; after = after; keeps_ends = keeps }

unaltered_tests : (was is keeps : Bool) → cond (was && is) (not keeps) (was || is) ≡ false →
    ((was ≡ true) × (is ≡ true) × (keeps ≡ true)) ⊎ ((was ≡ false) × (is ≡ false))
unaltered_tests true true true h = inl (refl, refl, refl)
unaltered_tests true true false h = absurd (true≢false h)
unaltered_tests true false keeps h = absurd (true≢false h)
unaltered_tests false true keeps h = absurd (true≢false h)
unaltered_tests false false keeps h = inr (refl, refl)

module _ (elem : Elem) (before after : NodeRow) (keeps : Bool) where
  part_kept : (expr : Expr) → keeps_part (rows_of elem (Some before) (Some after) keeps) expr ≡ true → own_part elem before.props expr ≡ own_part elem after.props expr
  part_kept (Element var) h = refl
  part_kept (Property var name) h = ap (option_map parts.Value) (one_value (value_at name before.props) (value_at name after.props) h)

  tuple_kept : (exprs : List Expr) → list_all (keeps_part (rows_of elem (Some before) (Some after) keeps)) exprs ≡ true → own_tuple elem before.props exprs ≡ own_tuple elem after.props exprs
  tuple_kept [] h = refl
  tuple_kept (expr ∷ exprs) h =
      let both = and_parts (keeps_part (rows_of elem (Some before) (Some after) keeps) expr) _ h in
      ap (λ o. option_and_then (λ part. option_map (λ rest. part ∷ rest) (own_tuple elem before.props exprs)) o) (part_kept expr both.0)
      ∙ ap (λ rest_of. option_and_then (λ part. option_map (λ rest. part ∷ rest) rest_of) (own_part elem after.props expr)) (tuple_kept exprs both.1)

module _ (resolved : Resolved) (key : Key) (elem : Elem) where
  outside : (own : Option NodeRow) → row_passes resolved key.scope 0 elem own ≡ false → values_by_row resolved key elem own ≡ None
  outside None h = refl
  outside (Some own) h = ap (λ t. cond t (Some (own_tuples resolved key elem own)) None) h

  tuples_kept : (before after : NodeRow) (keeps : Bool) → keeps_tuples resolved key (rows_of elem (Some before) (Some after) keeps) ≡ true →
      own_tuples resolved key elem before ≡ own_tuples resolved key elem after
  tuples_kept before after keeps h =
      let both = and_parts (is_one_outcome (own_passes resolved key.descriptor 0 elem before) (own_passes resolved key.descriptor 0 elem after)) _ h in
      let test = one_outcome (own_passes resolved key.descriptor 0 elem before) (own_passes resolved key.descriptor 0 elem after) both.0 in
      let same = tuple_kept elem before after keeps key.exprs both.1 in
      λ i. cond (test i) (option_map_or (λ tuple. tuple ∷ []) (same i) []) []

  inside : (before after : Option NodeRow) (keeps : Bool) → row_passes resolved key.scope 0 elem before ≡ true → row_passes resolved key.scope 0 elem after ≡ true →
      keeps_tuples resolved key (rows_of elem before after keeps) ≡ true → values_by_row resolved key elem before ≡ values_by_row resolved key elem after
  inside None after keeps was is h = absurd (true≢false (sym was))
  inside (Some before) None keeps was is h = absurd (true≢false (sym is))
  inside (Some before) (Some after) keeps was is h =
      ap (λ t. cond t (Some (own_tuples resolved key elem before)) None) was
      ∙ ap Some (tuples_kept before after keeps h)
      ∙ sym (ap (λ t. cond t (Some (own_tuples resolved key elem after)) None) is)

  unaltered : (before after : Option NodeRow) (keeps : Bool) → is_altered resolved key (rows_of elem before after keeps) ≡ false →
      values_by_row resolved key elem before ≡ values_by_row resolved key elem after
  unaltered before after keeps h =
      ⊎_elim (λ all. inside before after keeps all.0 all.1 all.2)
      (λ none. outside before none.0 ∙ sym (outside after none.1))
      (unaltered_tests (row_passes resolved key.scope 0 elem before) (row_passes resolved key.scope 0 elem after) (keeps_tuples resolved key (rows_of elem before after keeps)) h)

-- ---- the row of an element in a graph

module _ (resolved : Resolved) (g : Graph) (key : Key) (valid : is_valid_key key ≡ true) (local : IsLocal key) where
  by_row : (elem : Elem) → values_by_row resolved key elem (carried g elem) ≡ values_in_scope resolved g key elem
  by_row (Node id) = by (node_at g id) refl
    where
      test : (own : NodeRow) → node_at g id ≡ Some own → (t : Bool) → own_passes resolved key.scope 0 (Node id) own ≡ t →
          cond t (Some (own_tuples resolved key (Node id) own)) None ≡ values_in_scope resolved g key (Node id)
      test own there true passes = inside_row resolved g key valid local id own there passes
      test own there false fails = outside_row resolved g key valid local id own there fails

      by : (o : Option NodeRow) → node_at g id ≡ o → values_by_row resolved key (Node id) o ≡ values_in_scope resolved g key (Node id)
      by None none = absent_row resolved g key valid local id none
      by (Some own) there = test own there (own_passes resolved key.scope 0 (Node id) own) refl
  by_row (Edge id) =
      out (carried g (Edge id))
      ∙ sym (ap (λ b. if b then Some (key_values resolved g key (Edge id)) else None) (no_edge_stands resolved g key.scope (scope_valid key valid) local.0 id))
    where
      out : (o : Option NodeRow) → values_by_row resolved key (Edge id) o ≡ None
      out None = refl
      out (Some own) =
          ap (λ vars. cond (cond (is_edge_var vars 0) (list_all (pair_meets 0 own) key.scope.atoms) false) (Some (own_tuples resolved key (Edge id) own)) None) local.0

-- ---- the rows of a change

module _ (resolved : Resolved) (key : Key) (number : ℕ) where
  one_at_most : (elem : Elem) (own : Option NodeRow) (before : Option NodeRow) (keeps : Bool) → length (tuples_of (altered_to resolved key number (rows_of elem before own keeps))) ≤ 1
  one_at_most elem None before keeps = omega arith
  one_at_most elem (Some own) before keeps = by (own_passes resolved key.scope 0 elem own) (own_passes resolved key.descriptor 0 elem own) (own_tuple elem own.props key.exprs)
    where
      by : (s d : Bool) (tuple : Option (List Part)) →
          length (tuples_of (record { key = number; elem = elem; values = cond s (Some (cond d (option_map_or (λ tuple. tuple ∷ []) tuple []) [])) None })) ≤ 1
      by true true None = omega arith
      by true true (Some tuple) = omega arith
      by true false tuple = omega arith
      by false d tuple = omega arith

  few_more : (one : Known) (kept : List Known) (count : ℕ) (b : Bool) →
      length (map (altered_to resolved key number) kept) + sum_by (λ row. length (tuples_of row)) (map (altered_to resolved key number) kept) ≤ 2 * count →
      length (map (altered_to resolved key number) (cond b (one ∷ kept) kept))
      + sum_by (λ row. length (tuples_of row)) (map (altered_to resolved key number) (cond b (one ∷ kept) kept)) ≤ 2 * suc count
  few_more one kept count true few =
      let most = one_at_most one.elem one.after one.before one.keeps_ends in
      let sum = sum_by-cons (λ (row : KeyChange). length (tuples_of row)) (altered_to resolved key number one) (map (altered_to resolved key number) kept) in
      omega (arith, few, most, sum)
  few_more one kept count false few = omega (arith, few)

  altered_few : (known : List Known) →
      length (map (altered_to resolved key number) (filter (is_altered resolved key) known))
      + sum_by (λ row. length (tuples_of row)) (map (altered_to resolved key number) (filter (is_altered resolved key) known)) ≤ 2 * length known
  altered_few [] = omega arith
  altered_few (one ∷ known) = few_more one (filter (is_altered resolved key) known) (length known) (is_altered resolved key one) (altered_few known)

  pub few_of_change : (g h : Graph) (elems : List Elem) (known : List Known) → IsChange g h elems known → (rows : List KeyChange) →
      rows ≡ map (altered_to resolved key number) (filter (is_altered resolved key) known) →
      length rows + sum_by (λ row. length (tuples_of row)) rows ≤ 2 * length elems
  few_of_change g h elems known change rows are =
      let few = altered_few known in
      let size : length known ≡ length elems = ap length change.rows ∙ length-map elems (known_in g h) in
      subst (λ rs. length rs + sum_by (λ row. length (tuples_of row)) rs ≤ 2 * length elems) (sym are) (omega (arith, few, size))

module _ (resolved : Resolved) (g h : Graph) (key : Key) (valid : is_valid_key key ≡ true) (local : IsLocal key) (number : ℕ) where
  abbrev altered : Elem → Bool
  altered elem = is_altered resolved key (known_in g h elem)

  moved_more : (elem : Elem) (kept : List Known) (left : List Elem) (b : Bool) → map (altered_to resolved key number) kept ≡ map (change_of number (values_in_scope resolved h key)) left →
      map (altered_to resolved key number) (cond b (known_in g h elem ∷ kept) kept) ≡ map (change_of number (values_in_scope resolved h key)) (cond b (elem ∷ left) left)
  moved_more elem kept left true same = λ i. record { key = number; elem = elem; values = by_row resolved h key valid local elem i } ∷ same i
  moved_more elem kept left false same = same

  rows_moved : (elems : List Elem) → map (altered_to resolved key number) (filter (is_altered resolved key) (map (known_in g h) elems))
      ≡ map (change_of number (values_in_scope resolved h key)) (filter altered elems)
  rows_moved [] = refl
  rows_moved (elem ∷ elems) = moved_more elem (filter (is_altered resolved key) (map (known_in g h) elems)) (filter altered elems) (altered elem) (rows_moved elems)

  pub local_are : (elems : List Elem) (known : List Known) → IsChange g h elems known → (rows : List KeyChange) →
      rows ≡ map (altered_to resolved key number) (filter (is_altered resolved key) known) →
      AreRows number (values_in_scope resolved g key) (values_in_scope resolved h key) rows
  local_are elems known change rows are = record {
    elems = filter altered elems;
    are = are ∙ ap (λ ks. map (altered_to resolved key number) (filter (is_altered resolved key) ks)) change.rows ∙ rows_moved elems;
    ascending = (ascends_decides elem_cmp (filter altered elems)).1 (IsStrictlySortedBy-filter elem_cmp altered elems ((ascends_decides elem_cmp elems).0 change.ascending));
    others = λ elem beside. other elem beside (is_one_of elems elem) refl;
  }
    where
      by_rows : (elem : Elem) → values_by_row resolved key elem (carried g elem) ≡ values_by_row resolved key elem (carried h elem) →
          values_in_scope resolved g key elem ≡ values_in_scope resolved h key elem
      by_rows elem same = sym (by_row resolved g key valid local elem) ∙ same ∙ by_row resolved h key valid local elem

      other : (elem : Elem) → is_one_of (filter altered elems) elem ≡ false → (b : Bool) → is_one_of elems elem ≡ b →
          values_in_scope resolved g key elem ≡ values_in_scope resolved h key elem
      other elem beside true own =
          by_rows elem (unaltered resolved key elem (carried g elem) (carried h elem) (known_in g h elem).keeps_ends (kept_one altered elems elem own beside))
      other elem beside false own = by_rows elem (ap (values_by_row resolved key elem) (carried_same (is_one_of elems) g h change.agree elem own))
