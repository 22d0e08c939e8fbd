-- The operations of a dump, each a transaction of its own, make its graph from the empty graph.
use Rattle.std.proofs.Common.{◌≡◌, ℕ, ◌+◌, ◌≤◌, Bool, true, false, List, [], ◌∷◌, ◌++◌, length, map, Option, Some, None, is_some, Result, Ok, Err, refl, sym, ap, subst, ◌∙◌, append_assoc, arith, length-append, Ordering}
use Rattle.std.specs.Prelude.{flat_map, if◌then◌else◌, nat_le, nat_lt}
use Rattle.std.specs.Ordering.{nat_cmp}
use Rattle.std.specs.Cmp.{IsTotalOrder, nat_cmp_total, on_total}
use Rattle.std.specs.Cmp.Lexicographic.{slice_cmp, nat_list_cmp_total}
use Rattle.std.specs.List.{list_all}
use Rattle.std.specs.Map.{keys_of}
use Rattle.std.proofs.lemmas.Bool.{and_parts, and_from, le-ltb, le-leb, leb-true}
use Rattle.std.proofs.lemmas.List.{append-nil}
use Rattle.pgs_base.specs.declared.element.NodeId.{NodeId}
use Rattle.pgs_base.specs.declared.element.EdgeId.{EdgeId}
use Rattle.pgs_base.specs.declared.element.Elem.TheVariants.{Node, Edge}
use Rattle.pgs_base.specs.declared.row.NodeRow.{NodeRow}
use Rattle.pgs_base.specs.declared.row.EdgeRow.{EdgeRow}
use Rattle.pgs_base.specs.declared.value.Value.{Value}
use Rattle.pgs_base.specs.Graph.{Graph, node_cmp, edge_cmp, node_at, element_count, with_node, with_edge, empty_graph, has_ends, is_element_number, is_node_entry, is_edge_entry, is_graph}
use Rattle.pgs_base.specs.Order.{ascends}
use Rattle.pgs_base.specs.Pair.{pair_of, is_pair, are_names, are_props, put_value}
use Rattle.pgs_base.specs.Name.{is_name}
use Rattle.pgs_base.specs.Properties.{has_value}
use Rattle.pgs_base.proofs.Graphs.{IsGraph, graph_parts}
use Rattle.pgs_graph.specs.declared.operation.Op.{Op}
use Rattle.pgs_graph.specs.declared.operation.Op.TheVariants.{AddNode, AddEdge}
use Rattle.pgs_violation.specs.declared.structural.Cause.TheVariants.{AlreadyThere, NoNode, NoEdge}
use Rattle.pgs_violation.specs.declared.structural.Structural.TheVariants.{TooManyElements}
use Rattle.pgs_violation.specs.declared.rejection.Rejection.TheVariants.{Structural as ByStructure}
use Rattle.pgs_violation.specs.Decision.{decide, judging}
use Rattle.pgs_violation.specs.Staging.{◌>>=◌, StepFault, Unable, TooLarge, found_or, node_or_fault, is_small, put_node, put_edge, step, going_on, within_limit}
use Rattle.pgs_run_input.specs.Session.{standard}
use Rattle.pgs_run_try.specs.Judging.{judges_nothing}
use Rattle.pgs_run_laws.specs.DumpOps.{txn_of_op}
use Rattle.pgs_run_laws.proofs.Behind.{IsAbove, lookup_above, lookup_last, insert_above, insert_last, above_front}
use Rattle.pgs_dump.specs.Lines.{set_op, node_ops, edge_ops, graph_ops}

-- ---- operations, each a transaction of its own

-- operations that are accepted one after another lead from a graph to a graph
abbrev pub Builds : Graph → List Op → Graph → Type 0
Builds g [] h = g ≡ h
Builds g (op ∷ ops) h = (next : Graph) × (decide standard judges_nothing g (txn_of_op op) ≡ Ok next) × Builds next ops h

pub builds_then : (ops more : List Op) (g mid h : Graph) → Builds g ops mid → Builds mid more h → Builds g (ops ++ more) h
builds_then [] more g mid h same rest = subst (λ k. Builds k more h) (sym same) rest
builds_then (op ∷ ops) more g mid h built rest = (built.0, built.1, builds_then ops more built.0 mid h built.2 rest)

-- what can be done, within the limit, is accepted
accepted : (g next : Graph) (op : Op) → step g op ≡ Ok next → element_count next ≤ 1000000 → decide standard judges_nothing g (txn_of_op op) ≡ Ok next
accepted g next op done few =
    let within : nat_lt 1000000 (element_count next) ≡ false = le-ltb 1000000 (element_count next) few in
    ap (λ (r : Result Graph StepFault). judging standard judges_nothing (going_on 1 r (λ after. Ok after) >>= within_limit standard)) done
    ∙ ap (λ (b : Bool). judging standard judges_nothing (if b then Err (TooManyElements (element_count next)) else Ok next)) within
    ∙ ap (λ (b : Bool). if b then Err (ByStructure (TooManyElements (element_count next))) else Ok next) within

abbrev Properties : Type 0
Properties = List (List ℕ × Value)

abbrev name_cmp : List ℕ → List ℕ → Ordering
name_cmp = slice_cmp nat_cmp

-- ---- the properties of one element

-- `at` is the graph in which the element has these properties
module _ (at : Properties → Graph) (set : List ℕ × Value → Op)
    (puts : (before : Properties) (property : List ℕ × Value) → length (before ++ property ∷ []) ≤ 256 → IsAbove name_cmp property.0 before
    → step (at before) (set property) ≡ Ok (at (before ++ property ∷ [])))
    (few : (props : Properties) → element_count (at props) ≤ 1000000) where
  properties_built : (before after all : Properties) → all ≡ before ++ after → ascends name_cmp (keys_of all) ≡ true → length all ≤ 256
      → Builds (at before) (map set after) (at all)
  properties_built before [] all is ordered small = ap at (sym (is ∙ append-nil before))
  properties_built before (property ∷ after) all is ordered small =
      let more : before ++ property ∷ after ≡ (before ++ property ∷ []) ++ after = sym (append_assoc before (property ∷ []) after) in
      let enough : length (before ++ property ∷ []) ≤ 256 = omega (arith, ap length (is ∙ more), length-append (before ++ property ∷ []) after, small) in
      let above = above_front name_cmp nat_list_cmp_total property.0 property.1 before after (subst (λ props. ascends name_cmp (keys_of props) ≡ true) is ordered) in (
        at (before ++ property ∷ []),
        accepted (at before) (at (before ++ property ∷ [])) (set property) (puts before property enough above) (few (before ++ property ∷ [])),
        properties_built (before ++ property ∷ []) after all (is ∙ more) ordered small,
      )

-- ---- elements, one after another

-- `at` is the graph of these elements
module _ {X : Type 0} (at : List X → Graph) (ops_of : X → List Op) (all : List X)
    (builds : (front : List X) (x : X) (rest : List X) → all ≡ front ++ x ∷ rest → Builds (at front) (ops_of x) (at (front ++ x ∷ []))) where
  elements_built : (front rest : List X) → all ≡ front ++ rest → Builds (at front) (flat_map ops_of rest) (at all)
  elements_built front [] is = ap at (sym (is ∙ append-nil front))
  elements_built front (x ∷ rest) is =
      builds_then (ops_of x) (flat_map ops_of rest) (at front) (at (front ++ x ∷ [])) (at all) (builds front x rest is)
      (elements_built (front ++ x ∷ []) rest (is ∙ sym (append_assoc front (x ∷ []) rest)))

-- ---- rows

small_row : (labels : List (List ℕ)) (props : Properties) → length labels ≤ 64 → length props ≤ 256 → is_small labels props ≡ true
small_row labels props few less = and_from (nat_le (length labels) 64) (nat_le (length props) 256) (le-leb (length labels) 64 few) (le-leb (length props) 256 less)

pub small_parts : (labels : List (List ℕ)) (props : Properties) → is_small labels props ≡ true → (length labels ≤ 64) × (length props ≤ 256)
small_parts labels props small =
    let parts = and_parts (nat_le (length labels) 64) (nat_le (length props) 256) small in
    (leb-true (length labels) 64 parts.0, leb-true (length props) 256 parts.1)

abbrev with_rows : List (NodeId × NodeRow) → List (EdgeId × EdgeRow) → Graph
with_rows nodes edges = record { nodes = nodes; edges = edges }

-- what is done
abbrev taken : Graph → Result Graph StepFault
taken g = Ok g

-- ---- nodes

node_total : IsTotalOrder node_cmp
node_total = on_total (λ (id : NodeId). id.0) nat_cmp_total

module _ (front : List (NodeId × NodeRow)) (edges : List (EdgeId × EdgeRow)) (id : NodeId) (labels : List (List ℕ))
    (above : IsAbove node_cmp id front) (few_labels : length labels ≤ 64) where
  abbrev node_with : Properties → Graph
  node_with props = with_rows (front ++ (id, pair_of labels props) ∷ []) edges

  node_added : step (with_rows front edges) (AddNode id labels []) ≡ taken (node_with [])
  node_added =
      ap (λ (o : Option NodeRow). if is_some o then Err (Unable (AlreadyThere (Node id))) else put_node (with_rows front edges) id (pair_of labels []))
      (lookup_above node_cmp node_total id front above)
      ∙ ap (λ (b : Bool). if b then Ok (with_node (with_rows front edges) id (pair_of labels [])) else Err TooLarge) (small_row labels [] few_labels (omega arith))
      ∙ ap (λ nodes. taken (with_rows nodes edges)) (insert_above node_cmp node_total id (pair_of labels []) front above)

  node_set : (before : Properties) (property : List ℕ × Value) → length (before ++ property ∷ []) ≤ 256 → IsAbove name_cmp property.0 before
      → step (node_with before) (set_op (Node id) property) ≡ taken (node_with (before ++ property ∷ []))
  node_set before property enough last =
      ap (λ (o : Option NodeRow). found_or (NoNode id) o >>= λ row. put_node (node_with before) id (record row { props = put_value row.props property.0 property.1 }))
      (lookup_last node_cmp node_total id (pair_of labels before) front above)
      ∙ ap (λ props. put_node (node_with before) id (pair_of labels props)) (insert_above name_cmp nat_list_cmp_total property.0 property.1 before last)
      ∙ ap (λ (b : Bool). if b then Ok (with_node (node_with before) id (pair_of labels (before ++ property ∷ []))) else Err TooLarge)
      (small_row labels (before ++ property ∷ []) few_labels enough)
      ∙ ap (λ nodes. taken (with_rows nodes edges)) (insert_last node_cmp node_total id (pair_of labels before) (pair_of labels (before ++ property ∷ [])) front above)

  few_nodes : length front + 1 + length edges ≤ 1000000 → (props : Properties) → element_count (node_with props) ≤ 1000000
  few_nodes few props = omega (arith, length-append front ((id, pair_of labels props) ∷ []), few)

  node_built : length front + 1 + length edges ≤ 1000000 → (props : Properties) → ascends name_cmp (keys_of props) ≡ true → length props ≤ 256
      → Builds (with_rows front edges) (node_ops (id, pair_of labels props)) (node_with props)
  node_built few props ordered enough = (
    node_with [],
    accepted (with_rows front edges) (node_with []) (AddNode id labels []) node_added (few_nodes few []),
    properties_built node_with (set_op (Node id)) node_set (few_nodes few) [] props props refl ordered enough,
  )

-- ---- edges

edge_total : IsTotalOrder edge_cmp
edge_total = on_total (λ (id : EdgeId). id.0) nat_cmp_total

abbrev edge_of : NodeId → NodeId → List (List ℕ) → Properties → EdgeRow
edge_of source target labels props = record { source = source; target = target; labels = labels; props = props }

-- an end that is there lets an edge be added
end_there : (id : NodeId) (o : Option NodeRow) (r : Result Graph StepFault) → is_some o ≡ true → (found_or (NoNode id) o >>= λ _. r) ≡ r
end_there id None r there = cc
end_there id (Some row) r there = refl

module _ (nodes : List (NodeId × NodeRow)) (front : List (EdgeId × EdgeRow)) (id : EdgeId) (source target : NodeId) (labels : List (List ℕ))
    (above : IsAbove edge_cmp id front) (few_labels : length labels ≤ 64) where
  abbrev edge_with : Properties → Graph
  edge_with props = with_rows nodes (front ++ (id, edge_of source target labels props) ∷ [])

  edge_added : is_some (node_at (with_rows nodes front) source) ≡ true → is_some (node_at (with_rows nodes front) target) ≡ true
      → step (with_rows nodes front) (AddEdge id source target labels []) ≡ taken (edge_with [])
  edge_added from to =
      let put = put_edge (with_rows nodes front) id (edge_of source target labels []) in
      ap (λ (o : Option EdgeRow). if is_some o then Err (Unable (AlreadyThere (Edge id)))
      else (node_or_fault (with_rows nodes front) source >>= λ _. node_or_fault (with_rows nodes front) target >>= λ _. put))
      (lookup_above edge_cmp edge_total id front above)
      ∙ end_there source (node_at (with_rows nodes front) source) (node_or_fault (with_rows nodes front) target >>= λ _. put) from
      ∙ end_there target (node_at (with_rows nodes front) target) put to
      ∙ ap (λ (b : Bool). if b then Ok (with_edge (with_rows nodes front) id (edge_of source target labels [])) else Err TooLarge) (small_row labels [] few_labels (omega arith))
      ∙ ap (λ edges. taken (with_rows nodes edges)) (insert_above edge_cmp edge_total id (edge_of source target labels []) front above)

  edge_set : (before : Properties) (property : List ℕ × Value) → length (before ++ property ∷ []) ≤ 256 → IsAbove name_cmp property.0 before
      → step (edge_with before) (set_op (Edge id) property) ≡ taken (edge_with (before ++ property ∷ []))
  edge_set before property enough last =
      ap (λ (o : Option EdgeRow). found_or (NoEdge id) o >>= λ row. put_edge (edge_with before) id (record row { props = put_value row.props property.0 property.1 }))
      (lookup_last edge_cmp edge_total id (edge_of source target labels before) front above)
      ∙ ap (λ props. put_edge (edge_with before) id (edge_of source target labels props)) (insert_above name_cmp nat_list_cmp_total property.0 property.1 before last)
      ∙ ap (λ (b : Bool). if b then Ok (with_edge (edge_with before) id (edge_of source target labels (before ++ property ∷ []))) else Err TooLarge)
      (small_row labels (before ++ property ∷ []) few_labels enough)
      ∙ ap (λ edges. taken (with_rows nodes edges))
      (insert_last edge_cmp edge_total id (edge_of source target labels before) (edge_of source target labels (before ++ property ∷ [])) front above)

  few_edges : length nodes + (length front + 1) ≤ 1000000 → (props : Properties) → element_count (edge_with props) ≤ 1000000
  few_edges few props = omega (arith, length-append front ((id, edge_of source target labels props) ∷ []), few)

  edge_built : length nodes + (length front + 1) ≤ 1000000 → is_some (node_at (with_rows nodes front) source) ≡ true
      → is_some (node_at (with_rows nodes front) target) ≡ true → (props : Properties) → ascends name_cmp (keys_of props) ≡ true → length props ≤ 256
      → Builds (with_rows nodes front) (edge_ops (id, edge_of source target labels props)) (edge_with props)
  edge_built few from to props ordered enough = (
    edge_with [],
    accepted (with_rows nodes front) (edge_with []) (AddEdge id source target labels []) (edge_added from to) (few_edges few []),
    properties_built edge_with (set_op (Edge id)) edge_set (few_edges few) [] props props refl ordered enough,
  )

-- ---- the whole graph

-- what all pass, each passes
one_passes : {X : Type 0} (test : X → Bool) (front : List X) (x : X) (rest : List X) → list_all test (front ++ x ∷ rest) ≡ true → test x ≡ true
one_passes test [] x rest all = (and_parts _ _ all).0
one_passes test (y ∷ front) x rest all = one_passes test front x rest (and_parts _ _ all).1

-- the names of the properties of a pair ascend
props_ordered : (pair : NodeRow) → is_pair pair ≡ true → ascends name_cmp (keys_of pair.props) ≡ true
props_ordered pair is =
    let props = (and_parts (are_names pair.labels) (are_props pair.props) is).1 in
    let names = (and_parts (are_names (keys_of pair.props)) (list_all has_value pair.props) props).0 in
    (and_parts (ascends name_cmp (keys_of pair.props)) (list_all is_name (keys_of pair.props)) names).0

-- each row has at most 64 labels and 256 properties
pub record HasSmallRows (g : Graph) : Type 0 where
  pub nodes : list_all (λ (node : NodeId × NodeRow). is_small node.1.labels node.1.props) g.nodes ≡ true
  pub edges : list_all (λ (edge : EdgeId × EdgeRow). is_small edge.1.labels edge.1.props) g.edges ≡ true

module _ (g : Graph) (graph : IsGraph g) (small : HasSmallRows g) (few : element_count g ≤ 1000000) where
  each_node : (front : List (NodeId × NodeRow)) (node : NodeId × NodeRow) (rest : List (NodeId × NodeRow)) → g.nodes ≡ front ++ node ∷ rest
      → Builds (with_rows front []) (node_ops node) (with_rows (front ++ node ∷ []) [])
  each_node front node rest is =
      let stands = one_passes is_node_entry front node rest (ap (list_all is_node_entry) (sym is) ∙ graph.nodes) in
      let ordered = props_ordered node.1 (and_parts (is_element_number node.0.0) (is_pair node.1) stands).1 in
      let sizes = small_parts node.1.labels node.1.props
      (one_passes (λ (node : NodeId × NodeRow). is_small node.1.labels node.1.props) front node rest
      (ap (list_all (λ (node : NodeId × NodeRow). is_small node.1.labels node.1.props)) (sym is) ∙ small.nodes)) in
      let above = above_front node_cmp node_total node.0 node.1 front rest (ap (λ nodes. ascends node_cmp (keys_of nodes)) (sym is) ∙ graph.node_order) in
      node_built front [] node.0 node.1.labels above sizes.0 (omega (arith, ap length is, length-append front (node ∷ rest), few)) node.1.props ordered sizes.1

  each_edge : (front : List (EdgeId × EdgeRow)) (edge : EdgeId × EdgeRow) (rest : List (EdgeId × EdgeRow)) → g.edges ≡ front ++ edge ∷ rest
      → Builds (with_rows g.nodes front) (edge_ops edge) (with_rows g.nodes (front ++ edge ∷ []))
  each_edge front edge rest is =
      let stands = one_passes is_edge_entry front edge rest (ap (list_all is_edge_entry) (sym is) ∙ graph.edges) in
      let carried = pair_of edge.1.labels edge.1.props in
      let ordered = props_ordered carried (and_parts (is_element_number edge.0.0) (is_pair carried) stands).1 in
      let sizes = small_parts edge.1.labels edge.1.props
      (one_passes (λ (edge : EdgeId × EdgeRow). is_small edge.1.labels edge.1.props) front edge rest
      (ap (list_all (λ (edge : EdgeId × EdgeRow). is_small edge.1.labels edge.1.props)) (sym is) ∙ small.edges)) in
      let ends = and_parts _ _
      (one_passes (λ (edge : EdgeId × EdgeRow). has_ends g edge.1) front edge rest
      (ap (list_all (λ (edge : EdgeId × EdgeRow). has_ends g edge.1)) (sym is) ∙ graph.ends)) in
      let above = above_front edge_cmp edge_total edge.0 edge.1 front rest (ap (λ edges. ascends edge_cmp (keys_of edges)) (sym is) ∙ graph.edge_order) in
      edge_built g.nodes front edge.0 edge.1.source edge.1.target edge.1.labels above sizes.0
      (omega (arith, ap length is, length-append front (edge ∷ rest), few)) ends.0 ends.1 edge.1.props ordered sizes.1

  all_built : Builds empty_graph (graph_ops g) g
  all_built =
      builds_then (flat_map node_ops g.nodes) (flat_map edge_ops g.edges) empty_graph (with_rows g.nodes []) g
      (elements_built (λ nodes. with_rows nodes []) node_ops g.nodes each_node [] g.nodes refl)
      (elements_built (λ edges. with_rows g.nodes edges) edge_ops g.edges each_edge [] g.edges refl)

-- the operations of a graph whose rows are small, and which has few enough elements, make it
pub rebuilt : (g : Graph) → is_graph g ≡ true → HasSmallRows g → element_count g ≤ 1000000 → Builds empty_graph (graph_ops g) g
rebuilt g graph small few = all_built g (graph_parts g graph) small few
