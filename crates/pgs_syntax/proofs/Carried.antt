-- What the elements of a graph carry are pairs.
use Rattle.std.proofs.Common.{◌≡◌, Bool, true, false, cond, List, [], ◌∷◌, Option, Some, None, refl, ap, sym, ◌∙◌}
use Rattle.std.specs.Prelude.{option_and_then}
use Rattle.std.specs.BTreeMap.{is_at}
use Rattle.std.specs.List.{list_all}
use Rattle.std.specs.Map.{lookup}
use Rattle.std.specs.Option.{option_map}
use Rattle.std.proofs.lemmas.Bool.{and_parts, and_from}
use Rattle.pgs_base.specs.declared.element.NodeId.{NodeId}
use Rattle.pgs_base.specs.declared.element.EdgeId.{EdgeId}
use Rattle.pgs_base.specs.declared.element.Elem.{Elem}
use Rattle.pgs_base.specs.declared.element.Elem.TheVariants.{Node, Edge}
use Rattle.pgs_base.specs.declared.row.NodeRow.{NodeRow}
use Rattle.pgs_base.specs.declared.row.EdgeRow.{EdgeRow}
use Rattle.pgs_base.specs.Graph.{Graph, node_cmp, edge_cmp, node_at, edge_at, is_node_entry, is_edge_entry, is_graph}
use Rattle.pgs_base.specs.Pair.{pair_of, is_pair}
use Rattle.pgs_base.proofs.Graphs.{graph_parts}
use Rattle.pgs_syntax.specs.Join.{PairTriple}
use Rattle.pgs_syntax.specs.Matches.{carried}
use Rattle.pgs_syntax.specs.Triples.{is_triple}
use Rattle.pgs_syntax.specs.Typed.{triple_at}

-- what is found passes, under some key, the test that all entries pass
found_passes : {K V : Type 0} (test : K × V → Bool) (at : K → Bool) (es : List (K × V)) (v : V) → list_all test es ≡ true → lookup at es ≡ Some v →
    (k : K) × (test (k, v) ≡ true)
found_passes test at [] v all found = cc
found_passes {K} {V} test at (e ∷ es) v all found = by (at e.0) found (found_passes test at es v (and_parts _ _ all).1)
  where
    by : (b : Bool) → cond b (Some e.1) (lookup at es) ≡ Some v → (lookup at es ≡ Some v → (k : K) × (test (k, v) ≡ true)) → (k : K) × (test (k, v) ≡ true)
    by true found rest = let same : e.1 ≡ v = cc in (e.0, ap (λ row. test (e.0, row)) (sym same) ∙ (and_parts _ _ all).0)
    by false found rest = rest found

map_found : {X Y : Type 0} (f : X → Y) (o : Option X) (y : Y) → option_map f o ≡ Some y → (x : X) × (o ≡ Some x) × (f x ≡ y)
map_found f None y e = cc
map_found f (Some x) y e = (x, refl, cc)

then_found : {X Y : Type 0} (f : X → Option Y) (o : Option X) (y : Y) → option_and_then f o ≡ Some y → (x : X) × (o ≡ Some x) × (f x ≡ Some y)
then_found f None y e = cc
then_found f (Some x) y e = (x, refl, e)

module _ (g : Graph) (graph : is_graph g ≡ true) where
  node_pair : (id : NodeId) (p : NodeRow) → node_at g id ≡ Some p → is_pair p ≡ true
  node_pair id p at = (and_parts _ _ (found_passes is_node_entry (is_at (node_cmp id)) g.nodes p (graph_parts g graph).nodes at).1).1

  edge_pair : (id : EdgeId) (row : EdgeRow) → edge_at g id ≡ Some row → is_pair (pair_of row.labels row.props) ≡ true
  edge_pair id row at = (and_parts _ _ (found_passes is_edge_entry (is_at (edge_cmp id)) g.edges row (graph_parts g graph).edges at).1).1

  pub carried_pair : (elem : Elem) (p : NodeRow) → carried g elem ≡ Some p → is_pair p ≡ true
  carried_pair (Node id) p at = node_pair id p at
  carried_pair (Edge id) p at =
      let found = map_found (λ (row : EdgeRow). pair_of row.labels row.props) (edge_at g id) p at in
      ap is_pair (sym found.2) ∙ edge_pair id found.0 found.1

  pub triple_of_pairs : (id : EdgeId) (row : EdgeRow) (t : PairTriple) → edge_at g id ≡ Some row → triple_at g row ≡ Some t → is_triple t ≡ true
  triple_of_pairs id row t at ends =
      let source = then_found _ (node_at g row.source) t ends in
      let target = map_found _ (node_at g row.target) t source.2 in
      ap is_triple (sym target.2)
      ∙ and_from _ _ (and_from _ _ (node_pair row.source source.0 source.1) (edge_pair id row at)) (node_pair row.target target.0 target.1)
