-- The rows of all scopes, put into an index without rows, make it stand for the graph: without rows it stands for the empty graph.
use Rattle.std.proofs.Common.{◌≡◌, ℕ, Bool, true, false, List, [], map, filter, Option, Some, None, is_some, refl, sym, ◌∙◌, ap, true≢false}
use Rattle.std.specs.Prelude.{length, if◌then◌else◌}
use Rattle.std.specs.List.Sorted.{IsStrictlySortedBy}
use Rattle.std.specs.Map.{keys_of}
use Rattle.pgs_base.specs.declared.element.Elem.{Elem}
use Rattle.pgs_base.specs.declared.part.Part.{Part}
use Rattle.pgs_base.specs.Graph.{Graph, empty_graph, is_graph}
use Rattle.pgs_syntax.specs.declared.key.Key.{Key}
use Rattle.pgs_syntax.specs.declared.resolved.Resolved.{Resolved}
use Rattle.pgs_syntax.specs.KeyValues.{is_in_scope, scope_of, key_values}
use Rattle.pgs_syntax.proofs.InOrder.{scope_ascends}
use Rattle.pgs_syntax.proofs.Members.{contains_none}
use Rattle.pgs_keyindex.specs.declared.change.KeyChange.{KeyChange}
use Rattle.pgs_keyindex.specs.Index.{IndexState}
use Rattle.pgs_keyindex.specs.Members.{member_cmp}
use Rattle.pgs_keyindex.specs.Rows.{values_at, rows_changed}
use Rattle.pgs_keyindex.specs.Standing.{StandsFor, values_in_scope, exclusive_keys}
use Rattle.pgs_check_affected.specs.Local.{is_one_of}
use Rattle.pgs_check.specs.Rows.{change_of}
use Rattle.pgs_check.specs.Standing.{AreRows, AreChanges}
use Rattle.pgs_check.proofs.Indexed.{stands_after}
use Rattle.pgs_check.proofs.KeyFirst.{there_listed}
use Rattle.pgs_check.proofs.Shared.{row_found}

module _ (resolved : Resolved) where
  -- no element is in a scope of the empty graph
  nothing_in_scope : (key : Key) (elem : Elem) → values_in_scope resolved empty_graph key elem ≡ None
  nothing_in_scope key elem = by (values_in_scope resolved empty_graph key elem) refl
    where
      by : (o : Option (List (List Part))) → values_in_scope resolved empty_graph key elem ≡ o → o ≡ None
      by None is = refl
      by (Some tuples) is = absurd (contains_none elem (row_found resolved empty_graph key elem tuples is).0)

  pub rows_of_scope : (h : Graph) → is_graph h ≡ true → (key : Key) (number : ℕ) (rows : List KeyChange) →
      rows ≡ map (change_of number (values_in_scope resolved h key)) (scope_of resolved h key) →
      AreRows number (values_in_scope resolved empty_graph key) (values_in_scope resolved h key) rows
  rows_of_scope h graph key number rows are = record {
    elems = scope_of resolved h key;
    are = are;
    ascending = scope_ascends h graph resolved key;
    others = λ elem beside. nothing_in_scope key elem ∙ sym (outside elem beside (values_in_scope resolved h key elem) refl);
  }
    where
      outside : (elem : Elem) → is_one_of (scope_of resolved h key) elem ≡ false → (o : Option (List (List Part))) →
          values_in_scope resolved h key elem ≡ o → o ≡ None
      outside elem beside None is = refl
      outside elem beside (Some tuples) is =
          absurd (true≢false (sym (there_listed (scope_of resolved h key) elem (row_found resolved h key elem tuples is).0) ∙ beside))

  pub new_stands : (keys : List Key) (index : IndexState) → index.exclusive ≡ exclusive_keys keys → index.rows ≡ [] →
      StandsFor resolved empty_graph keys index
  new_stands keys index exclusive none = record {
    exclusive = exclusive;
    rows = λ number key at elem. ap (λ rows. values_at rows number elem) none ∙ sym (nothing_in_scope key elem);
  }

  pub whole_stands : (h : Graph) → is_graph h ≡ true → (keys : List Key) (index : IndexState) → StandsFor resolved empty_graph keys index →
      IsStrictlySortedBy member_cmp (keys_of index.rows) → (changes : List KeyChange) →
      AreChanges resolved empty_graph h keys (length keys) changes →
      (whole : IndexState) → whole.exclusive ≡ index.exclusive → whole.rows ≡ rows_changed index.rows changes → StandsFor resolved h keys whole
  whole_stands h graph keys index stands sorted changes are whole exclusive rows =
      let after = stands_after resolved empty_graph h graph keys index stands sorted changes are in
      record {
        exclusive = exclusive ∙ stands.exclusive;
        rows = λ number key at elem. ap (λ rs. values_at rs number elem) rows ∙ after.rows number key at elem;
      }
