-- The degrees that bound the parts of a decision are among those near what is touched.
use Rattle.std.proofs.Common.{◌≡◌, ℕ, ◌≤◌, Bool, true, false, ◌&&◌, ◌||◌, ⊎_elim, List, [], ◌∷◌, map, Option, Some, None, refl, sym, ◌∙◌, ap, true≢false, eq-eqb, le-leb, arith}
use Rattle.std.specs.Prelude.{Contains, nat_le}
use Rattle.std.specs.Cmp.{eq_by_cmp_equiv}
use Rattle.std.specs.Option.{option_map_or}
use Rattle.std.specs.List.{list_any}
use Rattle.std.specs.Map.{keys_of}
use Rattle.std.proofs.lemmas.Bool.{and_parts, and_from, or_cases, or_left, or_right}
use Rattle.std.proofs.lemmas.List.Folds.{list_any-append}
use Rattle.std.proofs.lemmas.Map.Keys.{IsDistinct-from_sorted}
use Rattle.std.proofs.lemmas.Map.Views.{lookup-from_Contains}
use Rattle.pgs_base.specs.declared.element.NodeId.{NodeId}
use Rattle.pgs_base.specs.declared.element.EdgeId.{EdgeId}
use Rattle.pgs_base.specs.declared.element.Elem.{Elem}
use Rattle.pgs_base.specs.declared.element.Elem.TheVariants.{Node, Edge}
use Rattle.pgs_base.specs.declared.row.EdgeRow.{EdgeRow}
use Rattle.pgs_base.specs.Graph.{Graph, node_cmp, edge_cmp, edge_at, is_end, is_graph}
use Rattle.pgs_base.specs.Order.{ascends}
use Rattle.pgs_base.proofs.Ascending.{ascends_decides}
use Rattle.pgs_graph.specs.declared.delta.Delta.{Delta}
use Rattle.pgs_graph.specs.declared.operation.Op.{Op}
use Rattle.pgs_graph.specs.declared.operation.Op.TheVariants.{AddNode, AddEdge, RemoveNode, DetachNode, RemoveEdge, SetNode, UnsetNode, LabelNode, UnlabelNode, SetEdge, UnsetEdge, LabelEdge, UnlabelEdge}
use Rattle.pgs_graph.specs.Changed.{changed, is_sound, after_changes}
use Rattle.pgs_graph.specs.Reads.{degree_of}
use Rattle.pgs_graph.proofs.Deltas.{edge_after, edge_cmp_total}
use Rattle.pgs_syntax.specs.Matches.{same_elem}
use Rattle.pgs_syntax.proofs.Halves.{any_map}
use Rattle.pgs_syntax.proofs.Members.{contains_none, contains_cases, contains_first, contains_later}
use Rattle.pgs_match.specs.Near.{is_at_element}
use Rattle.pgs_tables.specs.Adjacency.{is_end_of, ends_here}
use Rattle.pgs_txn.specs.Listing.{element_degree, has_degrees_upto}
use Rattle.pgs_overlay.specs.Standing.{HasDegreesWithin}
use Rattle.pgs_check_affected.specs.Changes.{elems_of}
use Rattle.pgs_check_affected.specs.Local.{is_one_of}
use Rattle.pgs_check_affected.specs.Touched.{touched, AreSparse}
use Rattle.pgs_check_affected.proofs.Touching.{itself, own_touched, near_less}
use Rattle.pgs_decide.specs.Touched.{element_of, named, touched_by}
use Rattle.pgs_decide.proofs.Covered.{first_named, later_named}

-- ---- the nodes that operations name

module _ (g : Graph) (most : ℕ) where
  -- no node at an element has more edges
  abbrev IsLow : Elem → Type 0
  IsLow elem = (id : NodeId) → is_at_element g elem id ≡ true → degree_of g id ≤ most

  node_low : (id : NodeId) → IsLow (Node id) → nat_le (degree_of g id) most ≡ true
  node_low id low = le-leb (degree_of g id) most (low id (eq-eqb id.0 id.0 refl))

  op_low : (op : Op) → IsLow (element_of op) → nat_le (element_degree g op) most ≡ true
  op_low (AddNode id labels props) low = node_low id low
  op_low (RemoveNode id) low = node_low id low
  op_low (DetachNode id) low = node_low id low
  op_low (SetNode id key value) low = node_low id low
  op_low (UnsetNode id key) low = node_low id low
  op_low (LabelNode id label) low = node_low id low
  op_low (UnlabelNode id label) low = node_low id low
  op_low (AddEdge id source target labels props) low = le-leb 0 most (omega arith)
  op_low (RemoveEdge id) low = le-leb 0 most (omega arith)
  op_low (SetEdge id key value) low = le-leb 0 most (omega arith)
  op_low (UnsetEdge id key) low = le-leb 0 most (omega arith)
  op_low (LabelEdge id label) low = le-leb 0 most (omega arith)
  op_low (UnlabelEdge id label) low = le-leb 0 most (omega arith)

  ops_low : (ops : List Op) → ((elem : Elem) → is_one_of (named ops) elem ≡ true → IsLow elem) → has_degrees_upto g most ops ≡ true
  ops_low [] low = refl
  ops_low (op ∷ ops) low = and_from _ _ (op_low op (low (element_of op) (first_named op ops))) (ops_low ops (λ elem own. low elem (later_named op ops elem own)))

module _ (g h : Graph) (near most : ℕ) where
  -- the nodes at an element of a list, in either graph, have few edges
  at_low : (elems : List Elem) → AreSparse g h near elems most → (elem : Elem) → is_one_of elems elem ≡ true → (id : NodeId) →
      (is_at_element g elem id || is_at_element h elem id) ≡ true → degree_of g id ≤ most
  at_low elems sparse elem own id at = (sparse elem own id (near_less g h 0 near elem id (omega arith) at)).0

  pub staging_low : (ops : List Op) → AreSparse g h near (touched_by g ops) most → has_degrees_upto g most ops ≡ true
  staging_low ops sparse = ops_low g most ops (λ elem own id at. at_low (touched_by g ops) sparse elem (own_touched g h (named ops) elem own) id (or_left _ _ at))

  -- of fewer elements too
  pub sparse_fewer : (elems all : List Elem) → ((elem : Elem) → is_one_of elems elem ≡ true → is_one_of all elem ≡ true) → AreSparse g h near all most → AreSparse g h near elems most
  sparse_fewer elems all within sparse = λ from own. sparse from (within from own)

-- ---- the nodes at the edges that a delta changes

one_of_any : {X : Type 0} (test : X → Bool) (xs : List X) → list_any test xs ≡ true → (x : X) × Contains xs x × (test x ≡ true)
one_of_any test [] h = absurd (true≢false (sym h))
one_of_any test (x ∷ xs) h =
    ⊎_elim (λ here. (x, contains_first x xs, here)) (λ later. let rest = one_of_any test xs later in (rest.0, contains_later x xs rest.0 rest.1, rest.2)) (or_cases (test x) _ h)

key_there : {V : Type 0} (es : List (EdgeId × V)) (e : EdgeId × V) → Contains es e → list_any (λ id. same_elem (Edge e.0) (Edge id)) (keys_of es) ≡ true
key_there [] e there = absurd (contains_none e there)
key_there (x ∷ es) e there =
    ⊎_elim (λ (same : x ≡ e). or_left _ _ (ap (λ y. same_elem (Edge e.0) (Edge y.0)) same ∙ itself (Edge e.0)))
    (λ later. or_right (same_elem (Edge e.0) (Edge x.0)) _ (key_there es e later)) (contains_cases x es e there)

module _ (g : Graph) (delta : Delta) (graph : is_graph g ≡ true) (sound : is_sound g delta ≡ true) (near most : ℕ)
    (sparse : AreSparse g (changed g delta) near (touched g (elems_of delta)) most) where
  own_low : (elem : Elem) → is_one_of (elems_of delta) elem ≡ true → (id : NodeId) → (is_at_element g elem id || is_at_element (changed g delta) elem id) ≡ true → degree_of g id ≤ most
  own_low elem own = at_low g (changed g delta) near most (touched g (elems_of delta)) sparse elem (own_touched g (changed g delta) (elems_of delta) elem own)

  edge_own : (change : EdgeId × Option EdgeRow) → Contains delta.edges change → is_one_of (elems_of delta) (Edge change.0) ≡ true
  edge_own change there =
      list_any-append (same_elem (Edge change.0)) (map (λ id. Node id) (keys_of delta.nodes)) (map (λ id. Edge id) (keys_of delta.edges))
      ∙ or_right (is_one_of (map (λ id. Node id) (keys_of delta.nodes)) (Edge change.0)) _
      (any_map (same_elem (Edge change.0)) (λ id. Edge id) (keys_of delta.edges) ∙ key_there delta.edges change there)

  edge_order : ascends edge_cmp (keys_of delta.edges) ≡ true
  edge_order = (and_parts (ascends node_cmp (keys_of delta.nodes)) _ (and_parts (ascends node_cmp (keys_of delta.nodes) && ascends edge_cmp (keys_of delta.edges)) _ sound).0).1

  change_stands : (change : EdgeId × Option EdgeRow) → Contains delta.edges change → edge_at (changed g delta) change.0 ≡ change.1
  change_stands change there =
      edge_after g delta change.0 graph sound
      ∙ ap (λ o. after_changes o (edge_at g change.0))
      (lookup-from_Contains (eq_by_cmp_equiv edge_cmp_total) change.0 change.1 delta.edges
      (IsDistinct-from_sorted edge_cmp (keys_of delta.edges) ((ascends_decides edge_cmp (keys_of delta.edges)).0 edge_order)) there)

  end_at : (id : NodeId) (o : Option EdgeRow) → is_end_of id o ≡ true → option_map_or (is_end id) o false ≡ true
  end_at id None h = h
  end_at id (Some row) h = h

  pub delta_low : HasDegreesWithin g delta most
  delta_low id h =
      let it = one_of_any (ends_here g id) delta.edges h in
      own_low (Edge it.0.0) (edge_own it.0 it.1) id
      (⊎_elim (λ old. or_left _ _ (end_at id (edge_at g it.0.0) old))
      (λ new. or_right (is_at_element g (Edge it.0.0) id) _ (ap (λ o. option_map_or (is_end id) o false) (change_stands it.0 it.1) ∙ end_at id it.0.1 new))
      (or_cases (is_end_of id (edge_at g it.0.0)) _ it.2))
