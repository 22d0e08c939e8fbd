-- What a staged delta touches is among what its transaction touches.
use Rattle.std.proofs.Common.{◌≡◌, ◌==◌, Bool, true, false, ◌||◌, ⊎_elim, List, [], ◌∷◌, map, Option, Some, None, refl, sym, ◌∙◌, ap, true≢false, Ordering, Less, Equal, Greater}
use Rattle.std.specs.Ordering.{match_ordering}
use Rattle.std.specs.Option.{option_map_or}
use Rattle.std.specs.BTreeSet.{insert_key}
use Rattle.std.specs.List.{list_all}
use Rattle.std.specs.Map.{keys_of}
use Rattle.std.specs.Cmp.{Equal-is}
use Rattle.std.proofs.lemmas.Bool.{and_parts, or_cases, or_left, or_right, eqb-true}
use Rattle.std.proofs.lemmas.List.Folds.{list_any-append}
use Rattle.pgs_base.specs.declared.element.NodeId.{NodeId}
use Rattle.pgs_base.specs.declared.element.EdgeId.{EdgeId}
use Rattle.pgs_base.specs.declared.element.Elem.{Elem}
use Rattle.pgs_base.specs.declared.element.Elem.TheVariants.{Node, Edge}
use Rattle.pgs_base.specs.declared.row.EdgeRow.{EdgeRow}
use Rattle.pgs_base.specs.Graph.{Graph, edge_at}
use Rattle.pgs_base.specs.Order.{elem_cmp}
use Rattle.pgs_base.specs.OrderLaws.{exact_elem}
use Rattle.pgs_graph.specs.declared.delta.Delta.{Delta}
use Rattle.pgs_graph.specs.declared.operation.Op.{Op}
use Rattle.pgs_graph.specs.declared.operation.Op.TheVariants.{AddNode, AddEdge, RemoveNode, DetachNode, RemoveEdge, SetNode, UnsetNode, LabelNode, UnlabelNode, SetEdge, UnsetEdge, LabelEdge, UnlabelEdge}
use Rattle.pgs_syntax.specs.Matches.{same_elem}
use Rattle.pgs_txn.specs.Listing.{names_node, names_edge, detaches_edge, may_list_node, may_list_edge, lists_only}
use Rattle.pgs_txn.specs.Rows.{has_end}
use Rattle.pgs_check_affected.specs.Changes.{elems_of}
use Rattle.pgs_check_affected.specs.Local.{is_one_of, has_touched_end}
use Rattle.pgs_check_affected.specs.Touched.{touched}
use Rattle.pgs_check_affected.proofs.Touching.{itself, touched_is}
use Rattle.pgs_decide.specs.Touched.{element_of, named, touched_by}

-- ---- a list with one element more

one_elem : (a b : Elem) → same_elem a b ≡ true → a ≡ b
one_elem a b h = exact_elem a b ((Equal-is (elem_cmp a b)).0 h)

with_element : (elems : List Elem) (own elem : Elem) → (same_elem elem own || is_one_of elems elem) ≡ true → is_one_of (insert_key elem_cmp elems own) elem ≡ true
with_element [] own elem h = h
with_element (x ∷ xs) own elem h = by (elem_cmp own x) refl (with_element xs own elem)
  where
    by : (o : Ordering) → elem_cmp own x ≡ o → ((same_elem elem own || is_one_of xs elem) ≡ true → is_one_of (insert_key elem_cmp xs own) elem ≡ true) →
        is_one_of (match_ordering o (own ∷ x ∷ xs) (x ∷ xs) (x ∷ insert_key elem_cmp xs own)) elem ≡ true
    by Less is rest = h
    by Equal is rest =
        ⊎_elim (λ here. or_left (same_elem elem x) _ (ap (same_elem elem) (sym (exact_elem own x is)) ∙ here)) (λ later. later) (or_cases (same_elem elem own) _ h)
    by Greater is rest =
        ⊎_elim (λ here. or_right (same_elem elem x) _ (rest (or_left _ _ here)))
        (λ later. ⊎_elim (λ first. or_left _ _ first) (λ more. or_right (same_elem elem x) _ (rest (or_right (same_elem elem own) _ more))) (or_cases (same_elem elem x) _ later))
        (or_cases (same_elem elem own) _ h)

pub first_named : (op : Op) (ops : List Op) → is_one_of (named (op ∷ ops)) (element_of op) ≡ true
first_named op ops = with_element (named ops) (element_of op) (element_of op) (or_left _ _ (itself (element_of op)))

pub later_named : (op : Op) (ops : List Op) (elem : Elem) → is_one_of (named ops) elem ≡ true → is_one_of (named (op ∷ ops)) elem ≡ true
later_named op ops elem h = with_element (named ops) (element_of op) elem (or_right (same_elem elem (element_of op)) _ h)

-- ---- what one operation may list

one_node : (a b : NodeId) → (a.0 == b.0) ≡ true → a ≡ b
one_node a b h = ap (λ n. record { 0 = n }) (eqb-true a.0 b.0 h)

one_edge : (a b : EdgeId) → (a.0 == b.0) ≡ true → a ≡ b
one_edge a b h = ap (λ n. record { 0 = n }) (eqb-true a.0 b.0 h)

own_node : (id : NodeId) (op : Op) → names_node id op ≡ true → element_of op ≡ Node id
own_node id (AddNode node labels props) h = ap (λ n. Node n) (one_node node id h)
own_node id (RemoveNode node) h = ap (λ n. Node n) (one_node node id h)
own_node id (DetachNode node) h = ap (λ n. Node n) (one_node node id h)
own_node id (SetNode node key value) h = ap (λ n. Node n) (one_node node id h)
own_node id (UnsetNode node key) h = ap (λ n. Node n) (one_node node id h)
own_node id (LabelNode node label) h = ap (λ n. Node n) (one_node node id h)
own_node id (UnlabelNode node label) h = ap (λ n. Node n) (one_node node id h)
own_node id (AddEdge edge source target labels props) h = absurd (true≢false (sym h))
own_node id (RemoveEdge edge) h = absurd (true≢false (sym h))
own_node id (SetEdge edge key value) h = absurd (true≢false (sym h))
own_node id (UnsetEdge edge key) h = absurd (true≢false (sym h))
own_node id (LabelEdge edge label) h = absurd (true≢false (sym h))
own_node id (UnlabelEdge edge label) h = absurd (true≢false (sym h))

own_edge : (id : EdgeId) (op : Op) → names_edge id op ≡ true → element_of op ≡ Edge id
own_edge id (AddEdge edge source target labels props) h = ap (λ n. Edge n) (one_edge edge id h)
own_edge id (RemoveEdge edge) h = ap (λ n. Edge n) (one_edge edge id h)
own_edge id (SetEdge edge key value) h = ap (λ n. Edge n) (one_edge edge id h)
own_edge id (UnsetEdge edge key) h = ap (λ n. Edge n) (one_edge edge id h)
own_edge id (LabelEdge edge label) h = ap (λ n. Edge n) (one_edge edge id h)
own_edge id (UnlabelEdge edge label) h = ap (λ n. Edge n) (one_edge edge id h)
own_edge id (AddNode node labels props) h = absurd (true≢false (sym h))
own_edge id (RemoveNode node) h = absurd (true≢false (sym h))
own_edge id (DetachNode node) h = absurd (true≢false (sym h))
own_edge id (SetNode node key value) h = absurd (true≢false (sym h))
own_edge id (UnsetNode node key) h = absurd (true≢false (sym h))
own_edge id (LabelNode node label) h = absurd (true≢false (sym h))
own_edge id (UnlabelNode node label) h = absurd (true≢false (sym h))

-- an edge at a node of a list is an edge with an end in the list
end_there : (test : Elem → Bool) (node : NodeId) → test (Node node) ≡ true → (o : Option EdgeRow) → has_end node o ≡ true →
    option_map_or (λ (row : EdgeRow). test (Node row.source) || test (Node row.target)) o false ≡ true
end_there test node own None h = absurd (true≢false (sym h))
end_there test node own (Some row) h =
    ⊎_elim (λ source. or_left _ _ (moved row.source source)) (λ target. or_right (test (Node row.source)) _ (moved row.target target)) (or_cases (row.source.0 == node.0) _ h)
  where
    moved : (end : NodeId) → (end.0 == node.0) ≡ true → test (Node end) ≡ true
    moved end same = ap (λ n. test (Node n)) (one_node end node same) ∙ own

detached_end : (g : Graph) (id : EdgeId) (op : Op) (test : Elem → Bool) → test (element_of op) ≡ true → detaches_edge g id op ≡ true → has_touched_end test g (Edge id) ≡ true
detached_end g id (DetachNode node) test own h = end_there test node own (edge_at g id) h
detached_end g id (AddNode node labels props) test own h = absurd (true≢false (sym h))
detached_end g id (AddEdge edge source target labels props) test own h = absurd (true≢false (sym h))
detached_end g id (RemoveNode node) test own h = absurd (true≢false (sym h))
detached_end g id (RemoveEdge edge) test own h = absurd (true≢false (sym h))
detached_end g id (SetNode node key value) test own h = absurd (true≢false (sym h))
detached_end g id (UnsetNode node key) test own h = absurd (true≢false (sym h))
detached_end g id (LabelNode node label) test own h = absurd (true≢false (sym h))
detached_end g id (UnlabelNode node label) test own h = absurd (true≢false (sym h))
detached_end g id (SetEdge edge key value) test own h = absurd (true≢false (sym h))
detached_end g id (UnsetEdge edge key) test own h = absurd (true≢false (sym h))
detached_end g id (LabelEdge edge label) test own h = absurd (true≢false (sym h))
detached_end g id (UnlabelEdge edge label) test own h = absurd (true≢false (sym h))

-- ---- an element of a list, or an edge at a node of it

module _ (g : Graph) where
  abbrev pub is_at_list : List Elem → Elem → Bool
  is_at_list elems elem = is_one_of elems elem || has_touched_end (is_one_of elems) g elem

  end_implied : (p q : Elem → Bool) → ((id : NodeId) → p (Node id) ≡ true → q (Node id) ≡ true) → (elem : Elem) → has_touched_end p g elem ≡ true → has_touched_end q g elem ≡ true
  end_implied p q weaker (Node id) h = h
  end_implied p q weaker (Edge id) h = by (edge_at g id) h
    where
      by : (o : Option EdgeRow) → option_map_or (λ (row : EdgeRow). p (Node row.source) || p (Node row.target)) o false ≡ true →
          option_map_or (λ (row : EdgeRow). q (Node row.source) || q (Node row.target)) o false ≡ true
      by None h = h
      by (Some row) h =
          ⊎_elim (λ source. or_left _ _ (weaker row.source source)) (λ target. or_right (q (Node row.source)) _ (weaker row.target target)) (or_cases (p (Node row.source)) _ h)

  touched_here : (elems : List Elem) (elem : Elem) → is_one_of (touched g elems) elem ≡ (is_one_of elems elem || (has_touched_end (is_one_of elems) g elem || has_touched_end (is_one_of elems) g elem))
  touched_here elems elem = touched_is g g elems (record { nodes = λ id out. refl; edges = λ id out. refl }) elem

  pub touched_given : (elems : List Elem) (elem : Elem) → is_at_list elems elem ≡ true → is_one_of (touched g elems) elem ≡ true
  touched_given elems elem h =
      touched_here elems elem
      ∙ ⊎_elim (λ own. or_left _ _ own) (λ beside. or_right (is_one_of elems elem) _ (or_left _ _ beside)) (or_cases (is_one_of elems elem) _ h)

  touched_found : (elems : List Elem) (elem : Elem) → is_one_of (touched g elems) elem ≡ true → is_at_list elems elem ≡ true
  touched_found elems elem h =
      ⊎_elim (λ own. or_left _ _ own)
      (λ beside. or_right (is_one_of elems elem) _ (⊎_elim (λ one. one) (λ other. other) (or_cases (has_touched_end (is_one_of elems) g elem) _ beside)))
      (or_cases (is_one_of elems elem) _ (sym (touched_here elems elem) ∙ h))

  -- ---- what operations may list

  node_listed : (ops : List Op) (id : NodeId) → may_list_node ops id ≡ true → is_one_of (named ops) (Node id) ≡ true
  node_listed [] id h = absurd (true≢false (sym h))
  node_listed (op ∷ ops) id h =
      ⊎_elim (λ here. ap (is_one_of (named (op ∷ ops))) (sym (own_node id op here)) ∙ first_named op ops) (λ later. later_named op ops (Node id) (node_listed ops id later))
      (or_cases (names_node id op) _ h)

  edge_listed : (ops : List Op) (id : EdgeId) → may_list_edge g ops id ≡ true → is_at_list (named ops) (Edge id) ≡ true
  edge_listed [] id h = absurd (true≢false (sym h))
  edge_listed (op ∷ ops) id h =
      ⊎_elim
      (λ here. ⊎_elim (λ own. or_left _ _ (ap (is_one_of (named (op ∷ ops))) (sym (own_edge id op own)) ∙ first_named op ops))
      (λ detached. or_right (is_one_of (named (op ∷ ops)) (Edge id)) _ (detached_end g id op (is_one_of (named (op ∷ ops))) (first_named op ops) detached))
      (or_cases (names_edge id op) _ here))
      (λ later. ⊎_elim (λ own. or_left _ _ (later_named op ops (Edge id) own))
      (λ beside. or_right (is_one_of (named (op ∷ ops)) (Edge id)) _
      (end_implied (is_one_of (named ops)) (is_one_of (named (op ∷ ops))) (λ node. later_named op ops (Node node)) (Edge id) beside))
      (or_cases (is_one_of (named ops) (Edge id)) _ (edge_listed ops id later)))
      (or_cases (names_edge id op || detaches_edge g id op) _ h)

  -- ---- what a delta of them lists

  each_passes : {K : Type 0} (make : K → Elem) (may : K → Bool) (test : Elem → Bool) → ((k : K) → may k ≡ true → test (make k) ≡ true) → (ks : List K) → list_all may ks ≡ true →
      (elem : Elem) → is_one_of (map make ks) elem ≡ true → test elem ≡ true
  each_passes make may test passes [] all elem h = absurd (true≢false (sym h))
  each_passes make may test passes (k ∷ ks) all elem h =
      let parts = and_parts (may k) _ all in
      ⊎_elim (λ here. ap test (one_elem elem (make k) here) ∙ passes k parts.0) (λ later. each_passes make may test passes ks parts.1 elem later) (or_cases (same_elem elem (make k)) _ h)

  no_edge : (ids : List EdgeId) (id : NodeId) → is_one_of (map (λ id. Edge id) ids) (Node id) ≡ false
  no_edge [] id = refl
  no_edge (edge ∷ ids) id = no_edge ids id

  module _ (ops : List Op) (delta : Delta) (only : lists_only g ops delta ≡ true) where
    all_nodes : list_all (may_list_node ops) (keys_of delta.nodes) ≡ true
    all_nodes = (and_parts (list_all (may_list_node ops) (keys_of delta.nodes)) _ only).0

    all_edges : list_all (may_list_edge g ops) (keys_of delta.edges) ≡ true
    all_edges = (and_parts (list_all (may_list_node ops) (keys_of delta.nodes)) _ only).1

    -- an element of the delta is among its nodes or among its edges
    either : (elem : Elem) → is_one_of (elems_of delta) elem ≡ true →
        (is_one_of (map (λ id. Node id) (keys_of delta.nodes)) elem || is_one_of (map (λ id. Edge id) (keys_of delta.edges)) elem) ≡ true
    either elem h = sym (list_any-append (same_elem elem) (map (λ id. Node id) (keys_of delta.nodes)) (map (λ id. Edge id) (keys_of delta.edges))) ∙ h

    nodes_named : (id : NodeId) → is_one_of (elems_of delta) (Node id) ≡ true → is_one_of (named ops) (Node id) ≡ true
    nodes_named id h =
        ⊎_elim (λ node. each_passes (λ id. Node id) (may_list_node ops) (is_one_of (named ops)) (node_listed ops) (keys_of delta.nodes) all_nodes (Node id) node)
        (λ edge. absurd (true≢false (sym edge ∙ no_edge (keys_of delta.edges) id))) (or_cases (is_one_of (map (λ id. Node id) (keys_of delta.nodes)) (Node id)) _ (either (Node id) h))

    own_covered : (elem : Elem) → is_one_of (elems_of delta) elem ≡ true → is_at_list (named ops) elem ≡ true
    own_covered elem h =
        ⊎_elim
        (λ node. or_left _ _ (each_passes (λ id. Node id) (may_list_node ops) (is_one_of (named ops)) (node_listed ops) (keys_of delta.nodes) all_nodes elem node))
        (λ edge. each_passes (λ id. Edge id) (may_list_edge g ops) (is_at_list (named ops)) (edge_listed ops) (keys_of delta.edges) all_edges elem edge)
        (or_cases (is_one_of (map (λ id. Node id) (keys_of delta.nodes)) elem) _ (either elem h))

    pub touched_covered : (elem : Elem) → is_one_of (touched g (elems_of delta)) elem ≡ true → is_one_of (touched_by g ops) elem ≡ true
    touched_covered elem h =
        touched_given (named ops) elem
        (⊎_elim (own_covered elem)
        (λ beside. or_right (is_one_of (named ops) elem) _ (end_implied (is_one_of (elems_of delta)) (is_one_of (named ops)) nodes_named elem beside))
        (or_cases (is_one_of (elems_of delta) elem) _ (touched_found (elems_of delta) elem h)))
