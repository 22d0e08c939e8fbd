-- The elements of a graph ascend strictly, nodes before edges; so do the scope of a key, and the key values of an element.
use Rattle.std.proofs.Common.{◌≡◌, true, false, List, [], ◌∷◌, ◌++◌, map, refl, ◌∙◌, ap, Ordering, is_lt}
use Rattle.std.specs.Prelude.{filter, filter_map}
use Rattle.std.specs.List.{list_all}
use Rattle.std.specs.List.Sorted.{IsStrictlySortedBy}
use Rattle.std.specs.Map.{keys_of}
use Rattle.std.proofs.lemmas.Bool.{and_parts, and_from}
use Rattle.std.proofs.lemmas.List.Folds.{list_all-append}
use Rattle.std.proofs.lemmas.List.Kept.{IsStrictlySortedBy-filter}
use Rattle.pgs_base.specs.declared.element.NodeId.{NodeId}
use Rattle.pgs_base.specs.declared.element.EdgeId.{EdgeId}
use Rattle.pgs_base.specs.declared.element.Elem.{Elem}
use Rattle.pgs_base.specs.declared.element.Elem.TheVariants.{Node, Edge}
use Rattle.pgs_base.specs.declared.part.Part.{Part}
use Rattle.pgs_base.specs.declared.row.NodeRow.{NodeRow}
use Rattle.pgs_base.specs.declared.row.EdgeRow.{EdgeRow}
use Rattle.pgs_base.specs.Graph.{Graph, node_cmp, edge_cmp, is_graph}
use Rattle.pgs_base.specs.Order.{ascends, elem_cmp, tuple_cmp}
use Rattle.pgs_base.specs.OrderLaws.{tuple_cmp_total}
use Rattle.pgs_base.proofs.Graphs.{graph_parts}
use Rattle.pgs_base.proofs.Ascending.{ascends_decides, ascending-insert_key, ascending_none}
use Rattle.pgs_syntax.specs.declared.key.Key.{Key}
use Rattle.pgs_syntax.specs.declared.resolved.Resolved.{Resolved}
use Rattle.pgs_syntax.specs.KeyValues.{starts_at, tuple_of, is_in_scope, scope_of, as_set, key_values}
use Rattle.pgs_syntax.specs.Matches.{elements, matches}

-- ---- elements

ascends_append : {K : Type 0} (cmp : K → K → Ordering) (xs ys : List K) → ascends cmp xs ≡ true → ascends cmp ys ≡ true →
    list_all (λ x. list_all (λ y. is_lt (cmp x y)) ys) xs ≡ true → ascends cmp (xs ++ ys) ≡ true
ascends_append cmp [] ys first second across = second
ascends_append cmp (x ∷ xs) ys first second across =
    let parts = and_parts _ _ first in
    let apart = and_parts _ _ across in
    and_from _ _ (list_all-append (λ w. is_lt (cmp x w)) xs ys ∙ and_from _ _ parts.0 apart.0) (ascends_append cmp xs ys parts.1 second apart.1)

module _ {K V : Type 0} (cmp : K → K → Ordering) (elem : K → Elem) (same : (a b : K) → elem_cmp (elem a) (elem b) ≡ cmp a b) where
  rows_later : (k : K) (rows : List (K × V)) → list_all (λ later. is_lt (cmp k later)) (keys_of rows) ≡ true →
      list_all (λ later. is_lt (elem_cmp (elem k) later)) (map (λ (row : K × V). elem row.0) rows) ≡ true
  rows_later k [] h = refl
  rows_later k (row ∷ rows) h =
      let parts = and_parts _ _ h in and_from _ _ (ap is_lt (same k row.0) ∙ parts.0) (rows_later k rows parts.1)

  rows_ascend : (rows : List (K × V)) → ascends cmp (keys_of rows) ≡ true → ascends elem_cmp (map (λ (row : K × V). elem row.0) rows) ≡ true
  rows_ascend [] h = refl
  rows_ascend (row ∷ rows) h = let parts = and_parts _ _ h in and_from _ _ (rows_later row.0 rows parts.0) (rows_ascend rows parts.1)

edges_after : (id : NodeId) (edges : List (EdgeId × EdgeRow)) → list_all (λ y. is_lt (elem_cmp (Node id) y)) (map (λ (edge : EdgeId × EdgeRow). Edge edge.0) edges) ≡ true
edges_after id [] = refl
edges_after id (edge ∷ edges) = edges_after id edges

nodes_before : (nodes : List (NodeId × NodeRow)) (edges : List (EdgeId × EdgeRow)) →
    list_all (λ x. list_all (λ y. is_lt (elem_cmp x y)) (map (λ (edge : EdgeId × EdgeRow). Edge edge.0) edges)) (map (λ (node : NodeId × NodeRow). Node node.0) nodes) ≡ true
nodes_before [] edges = refl
nodes_before (node ∷ nodes) edges = and_from _ _ (edges_after node.0 edges) (nodes_before nodes edges)

module _ (g : Graph) (graph : is_graph g ≡ true) where
  pub nodes_ascend : ascends elem_cmp (map (λ (node : NodeId × NodeRow). Node node.0) g.nodes) ≡ true
  nodes_ascend = rows_ascend node_cmp Node (λ a b. refl) g.nodes (graph_parts g graph).node_order

  pub edges_ascend : ascends elem_cmp (map (λ (edge : EdgeId × EdgeRow). Edge edge.0) g.edges) ≡ true
  edges_ascend = rows_ascend edge_cmp Edge (λ a b. refl) g.edges (graph_parts g graph).edge_order

  pub scope_ascends : (resolved : Resolved) (key : Key) → ascends elem_cmp (scope_of resolved g key) ≡ true
  scope_ascends resolved key =
      let all = ascends_append elem_cmp (elements g false) (elements g true) nodes_ascend edges_ascend (nodes_before g.nodes g.edges) in
      (ascends_decides elem_cmp (scope_of resolved g key)).1
      (IsStrictlySortedBy-filter elem_cmp (is_in_scope resolved g key) (elements g false ++ elements g true)
      ((ascends_decides elem_cmp (elements g false ++ elements g true)).0 all))

-- ---- key values

set_sorted : (tuples : List (List Part)) → IsStrictlySortedBy tuple_cmp (as_set tuples)
set_sorted [] = ascending_none tuple_cmp [] refl
set_sorted (tuple ∷ tuples) = ascending-insert_key tuple_cmp_total tuple (as_set tuples) (set_sorted tuples)

pub values_ascend : (resolved : Resolved) (g : Graph) (key : Key) (elem : Elem) → ascends tuple_cmp (key_values resolved g key elem) ≡ true
values_ascend resolved g key elem =
    (ascends_decides tuple_cmp (key_values resolved g key elem)).1
    (set_sorted (filter_map (tuple_of g key.exprs) (filter (starts_at elem) (matches resolved g key.descriptor))))
