-- What is typed under the old schema is typed under the new one.
use Rattle.std.proofs.Common.{◌≡◌, true, false, Option, Some, None, refl, sym, ap, ◌∙◌}
use Rattle.std.specs.Prelude.{Contains, option_and_then}
use Rattle.std.specs.Option.{option_map, option_map_or}
use Rattle.std.proofs.lemmas.Bool.{and_parts, and_from}
use Rattle.pgs_base.specs.declared.element.NodeId.{NodeId}
use Rattle.pgs_base.specs.declared.element.EdgeId.{EdgeId}
use Rattle.pgs_base.specs.declared.element.Elem.TheVariants.{Node}
use Rattle.pgs_base.specs.declared.row.NodeRow.{NodeRow}
use Rattle.pgs_base.specs.declared.row.EdgeRow.{EdgeRow}
use Rattle.pgs_base.specs.Graph.{Graph, node_at, is_graph, is_node_entry, is_edge_entry}
use Rattle.pgs_base.specs.Pair.{is_pair, pair_of}
use Rattle.pgs_base.proofs.Graphs.{graph_parts}
use Rattle.pgs_syntax.specs.declared.resolved.Resolved.{Resolved}
use Rattle.pgs_syntax.specs.declared.resolved.TypeNo.{TypeNo}
use Rattle.pgs_syntax.specs.declared.resolved.TypeNo.TheVariants as types
use Rattle.pgs_syntax.specs.Join.{PairTriple}
use Rattle.pgs_syntax.specs.Triples.{is_triple}
use Rattle.pgs_syntax.specs.Typed.{is_typed_node, is_typed_edge, is_typed_triple, types_node, types_edge, triple_at}
use Rattle.pgs_syntax.proofs.Carried.{carried_pair}
use Rattle.pgs_schema_changes.specs.AsksNoMore.{AreTypesContained}
use Rattle.pgs_schema_changes.proofs.KeptKeys.{some_item, each_item}

map_found : {X Y : Type 0} (f : X → Y) (o : Option X) (y : Y) → option_map f o ≡ Some y → (x : X) × (o ≡ Some x) × (f x ≡ y)
map_found f None y e = cc
map_found f (Some x) y e = (x, refl, cc)

then_found : {X Y : Type 0} (f : X → Option Y) (o : Option X) (y : Y) → option_and_then f o ≡ Some y → (x : X) × (o ≡ Some x) × (f x ≡ Some y)
then_found f None y e = cc
then_found f (Some x) y e = (x, refl, e)

module _ (g : Graph) (graph : is_graph g ≡ true) where
  pub node_pair : (node : NodeId × NodeRow) → Contains g.nodes node → is_pair node.1 ≡ true
  node_pair node there = (and_parts _ _ (each_item is_node_entry g.nodes node (graph_parts g graph).nodes there)).1

  edge_pair : (edge : EdgeId × EdgeRow) → Contains g.edges edge → is_pair (pair_of edge.1.labels edge.1.props) ≡ true
  edge_pair edge there = (and_parts _ _ (each_item is_edge_entry g.edges edge (graph_parts g graph).edges there)).1

  -- the pairs of an edge and of its ends
  pub edge_triple : (edge : EdgeId × EdgeRow) (t : PairTriple) → Contains g.edges edge → triple_at g edge.1 ≡ Some t → is_triple t ≡ true
  edge_triple edge t there ends =
      let source = then_found _ (node_at g edge.1.source) t ends in
      let target = map_found _ (node_at g edge.1.target) t source.2 in
      ap is_triple (sym target.2)
      ∙ and_from _ _ (and_from _ _ (carried_pair g graph (Node edge.1.source) source.0 source.1) (edge_pair edge there)) (carried_pair g graph (Node edge.1.target) target.0 target.1)

module _ (old new : Resolved) (contained : AreTypesContained old new) where
  node_by : (p : NodeRow) → is_pair p ≡ true → (type : TypeNo) → Contains old.guard.types type → types_node old p type ≡ true → is_typed_node new p ≡ true
  node_by p pair (types.Node number) there is =
      let parts = and_parts _ _ is in contained (types.Node number) there parts.0 p pair parts.1
  node_by p pair (types.Edge number) there is = cc

  pub node_typed : (p : NodeRow) → is_pair p ≡ true → is_typed_node old p ≡ true → is_typed_node new p ≡ true
  node_typed p pair typed =
      let type = some_item (types_node old p) old.guard.types typed in node_by p pair type.0 type.1 type.2

  triple_by : (t : PairTriple) → is_triple t ≡ true → (type : TypeNo) → Contains old.guard.types type → types_edge old t type ≡ true → is_typed_triple new t ≡ true
  triple_by t triple (types.Node number) there is = cc
  triple_by t triple (types.Edge number) there is =
      let parts = and_parts _ _ is in contained (types.Edge number) there parts.0 t triple parts.1

  triple_typed : (t : PairTriple) → is_triple t ≡ true → is_typed_triple old t ≡ true → is_typed_triple new t ≡ true
  triple_typed t triple typed =
      let type = some_item (types_edge old t) old.guard.types typed in triple_by t triple type.0 type.1 type.2

  by_ends : (ends : Option PairTriple) → ((t : PairTriple) → ends ≡ Some t → is_triple t ≡ true) → option_map_or (is_typed_triple old) ends false ≡ true → option_map_or (is_typed_triple new) ends false ≡ true
  by_ends None triple typed = cc
  by_ends (Some t) triple typed = triple_typed t (triple t refl) typed

  pub edge_typed : (g : Graph) → is_graph g ≡ true → (edge : EdgeId × EdgeRow) → Contains g.edges edge → is_typed_edge old g edge.1 ≡ true → is_typed_edge new g edge.1 ≡ true
  edge_typed g graph edge there typed = by_ends (triple_at g edge.1) (λ t ends. edge_triple g graph edge t there ends) typed
