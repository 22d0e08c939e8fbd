-- What each row gives, found by its key.
use Rattle.std.proofs.Common.{◌≡◌, true, List, [], ◌∷◌, ◌++◌, append_assoc, Option, Some, refl, sym, ap, ◌∙◌, subst, Ordering}
use Rattle.std.specs.Prelude.{Contains, option_and_then, filter_map}
use Rattle.std.specs.BTreeMap.{is_at}
use Rattle.std.specs.Cmp.{IsTotalOrder, nat_cmp_total, on_total}
use Rattle.std.specs.List.{cons_option}
use Rattle.std.specs.List.Sorted.{IsStrictlySortedBy}
use Rattle.std.specs.Map.{lookup, keys_of}
use Rattle.pgs_base.specs.declared.element.NodeId.{NodeId}
use Rattle.pgs_base.specs.declared.element.EdgeId.{EdgeId}
use Rattle.pgs_base.specs.Graph.{Graph, node_cmp, edge_cmp, is_graph}
use Rattle.pgs_base.proofs.Ascending.{ascends_decides}
use Rattle.pgs_base.proofs.Graphs.{graph_parts}
use Rattle.pgs_base.proofs.Lookups.{found_at_place}
use Rattle.pgs_syntax.specs.declared.resolved.Resolved.{Resolved}
use Rattle.pgs_syntax.proofs.Members.{contains_first, contains_later}
use Rattle.pgs_violation.specs.declared.violation.Violation.{Violation}
use Rattle.pgs_violation.specs.Violations.{untyped_node, untyped_edge, where_asked}
use Rattle.pgs_scratch.specs.Untyped.{untyped_node_at, untyped_edge_at, untyped_violations}

module _ {K V Y : Type 0} {cmp : K → K → Ordering} (total : IsTotalOrder cmp) (give : K × V → Option Y) (rows : List (K × V)) (sorted : IsStrictlySortedBy cmp (keys_of rows)) where
  abbrev at : K → Option Y
  at k = option_and_then (λ v. give (k, v)) (lookup (is_at (cmp k)) rows)

  pub found_row : (row : K × V) → Contains rows row → lookup (is_at (cmp row.0)) rows ≡ Some row.1
  found_row row (i, below, is) =
      subst (λ (r : K × V). lookup (is_at (cmp r.0)) rows ≡ Some r.1) is (found_at_place total rows sorted i row below)

  each : (some : List (K × V)) → ((row : K × V) → Contains some row → Contains rows row) → filter_map at (keys_of some) ≡ filter_map give some
  each [] within = refl
  each (row ∷ some) within =
      ap (λ o. cons_option o (filter_map at (keys_of some)))
      (ap (option_and_then (λ v. give (row.0, v))) (found_row row (within row (contains_first row some))))
      ∙ ap (cons_option (give row)) (each some (λ other h. within other (contains_later row some other h)))

  pub each_by_key : filter_map at (keys_of rows) ≡ filter_map give rows
  each_by_key = each rows (λ row h. h)

module _ (resolved : Resolved) (g : Graph) (graph : is_graph g ≡ true) where
  pub untyped_by_number : filter_map (untyped_node_at resolved g) (keys_of g.nodes) ≡ filter_map (untyped_node resolved) g.nodes
  untyped_by_number =
      each_by_key (on_total (λ id. id.0) nat_cmp_total) (untyped_node resolved) g.nodes
      ((ascends_decides node_cmp (keys_of g.nodes)).0 (graph_parts g graph).node_order)

  pub untyped_edges_by_number : filter_map (untyped_edge_at resolved g) (keys_of g.edges) ≡ filter_map (untyped_edge resolved g) g.edges
  untyped_edges_by_number =
      each_by_key (on_total (λ id. id.0) nat_cmp_total) (untyped_edge resolved g) g.edges
      ((ascends_decides edge_cmp (keys_of g.edges)).0 (graph_parts g graph).edge_order)

  -- what the numbers of all nodes and of all edges give is the whole, where the guard is strict
  pub untyped_listed : resolved.guard.strict ≡ true → (base so_far : List Violation) (nodes : List NodeId) (edges : List EdgeId) →
      nodes ≡ keys_of g.nodes → edges ≡ keys_of g.edges → so_far ≡ base ++ filter_map (untyped_node_at resolved g) nodes →
      so_far ++ filter_map (untyped_edge_at resolved g) edges ≡ base ++ untyped_violations resolved g
  untyped_listed strict base so_far nodes edges node_ids edge_ids found =
      let of_nodes = filter_map (untyped_node resolved) g.nodes in
      let of_edges = filter_map (untyped_edge resolved g) g.edges in
      ap (λ before. before ++ filter_map (untyped_edge_at resolved g) edges)
      (found ∙ ap (λ ids. base ++ filter_map (untyped_node_at resolved g) ids) node_ids ∙ ap (λ more. base ++ more) untyped_by_number)
      ∙ ap (λ more. (base ++ of_nodes) ++ more) (ap (filter_map (untyped_edge_at resolved g)) edge_ids ∙ untyped_edges_by_number)
      ∙ append_assoc base of_nodes of_edges ∙ ap (λ asked. base ++ where_asked asked (of_nodes ++ of_edges)) (sym strict)
