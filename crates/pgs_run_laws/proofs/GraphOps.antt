-- The operations that make a graph are as a dump has them.
use Rattle.std.proofs.Common.{◌≡◌, ℕ, Bool, true, false, ◌&&◌, cond, List, [], ◌∷◌, ◌++◌, map, Some, is_some, refl, ap, ◌∙◌}
use Rattle.std.specs.Prelude.{flat_map}
use Rattle.std.specs.Ordering.{nat_cmp}
use Rattle.std.specs.Cmp.{Equal-is}
use Rattle.std.specs.List.{AllByRecursion, list_all}
use Rattle.std.specs.Map.{keys_of, lookup}
use Rattle.std.specs.BTreeMap.{is_at}
use Rattle.std.proofs.lemmas.Bool.{and_parts, and_from}
use Rattle.std.proofs.lemmas.Map.Lookups.{exact_unsigned}
use Rattle.pgs_base.specs.declared.element.NodeId.{NodeId}
use Rattle.pgs_base.specs.declared.element.EdgeId.{EdgeId}
use Rattle.pgs_base.specs.declared.element.Elem.TheVariants.{Node, Edge}
use Rattle.pgs_base.specs.declared.row.NodeRow.{NodeRow}
use Rattle.pgs_base.specs.declared.row.EdgeRow.{EdgeRow}
use Rattle.pgs_base.specs.declared.value.Value.{Value}
use Rattle.pgs_base.specs.Graph.{Graph, node_cmp, node_at, has_ends, is_element_number, is_node_entry, is_edge_entry, is_graph}
use Rattle.pgs_base.specs.Name.{is_name}
use Rattle.pgs_base.specs.Pair.{pair_of, is_pair, are_names, are_props}
use Rattle.pgs_base.specs.Properties.{has_value}
use Rattle.pgs_base.specs.Value.{is_value}
use Rattle.pgs_base.proofs.Graphs.{graph_parts}
use Rattle.pgs_graph.specs.declared.operation.Op.{Op}
use Rattle.pgs_violation.specs.Staging.{is_small}
use Rattle.pgs_dump.specs.Lines.{set_op, node_ops, edge_ops, graph_ops}
use Rattle.pgs_run_laws.specs.DumpOps.{IsDumpOp}
use Rattle.pgs_run_laws.proofs.Rebuilt.{HasSmallRows, small_parts}

all_append : {X : Type 0} (P : X → Type 0) (xs ys : List X) → AllByRecursion P xs → AllByRecursion P ys → AllByRecursion P (xs ++ ys)
all_append P [] ys first second = second
all_append P (x ∷ xs) ys first second = (first.0, all_append P xs ys first.1 second)

-- what the operations of each element pass, all pass
all_flat : {X : Type 0} (P : Op → Type 0) (ops_of : X → List Op) (test small : X → Bool)
    → ((x : X) → test x ≡ true → small x ≡ true → AllByRecursion P (ops_of x)) → (xs : List X) → list_all test xs ≡ true → list_all small xs ≡ true
    → AllByRecursion P (flat_map ops_of xs)
all_flat P ops_of test small each [] all none = tt
all_flat P ops_of test small each (x ∷ xs) all sized =
    let tests = and_parts (test x) (list_all test xs) all in
    let sizes = and_parts (small x) (list_all small xs) sized in
    all_append P (ops_of x) (flat_map ops_of xs) (each x tests.0 sizes.0) (all_flat P ops_of test small each xs tests.1 sizes.1)

-- ---- pairs

-- what is said of a pair
record PairParts (pair : NodeRow) : Type 0 where
  labels : are_names pair.labels ≡ true
  names : list_all is_name (keys_of pair.props) ≡ true
  values : list_all has_value pair.props ≡ true

pair_parts : (pair : NodeRow) → is_pair pair ≡ true → PairParts pair
pair_parts pair is =
    let parts = and_parts (are_names pair.labels) (are_props pair.props) is in
    let props = and_parts (are_names (keys_of pair.props)) (list_all has_value pair.props) parts.1 in
    record { labels = parts.0; names = (and_parts _ (list_all is_name (keys_of pair.props)) props.0).1; values = props.1 }

-- labels alone are a pair
labels_alone : (labels : List (List ℕ)) → are_names labels ≡ true → is_pair (pair_of labels []) ≡ true
labels_alone labels are = and_from (are_names labels) true are refl

-- setting one property after another
sets : (set : List ℕ × Value → Op) (number : Bool)
    → ((property : List ℕ × Value) → (number && is_name property.0 && is_value property.1) ≡ true → IsDumpOp (set property)) → number ≡ true
    → (props : List (List ℕ × Value)) → list_all is_name (keys_of props) ≡ true → list_all has_value props ≡ true → AllByRecursion IsDumpOp (map set props)
sets set number forms is [] names values = tt
sets set number forms is (property ∷ props) names values =
    let name = and_parts (is_name property.0) (list_all is_name (keys_of props)) names in
    let value = and_parts (is_value property.1) (list_all has_value props) values in (
      forms property (and_from (number && is_name property.0) (is_value property.1) (and_from number (is_name property.0) is name.0) value.0),
      sets set number forms is props name.1 value.1,
    )

-- ---- elements

node_ops_form : (node : NodeId × NodeRow) → is_node_entry node ≡ true → is_small node.1.labels node.1.props ≡ true → AllByRecursion IsDumpOp (node_ops node)
node_ops_form node stands small =
    let parts = and_parts (is_element_number node.0.0) (is_pair node.1) stands in
    let pair = pair_parts node.1 parts.1 in (
      record {
        form = (refl, (small_parts node.1.labels node.1.props small).0);
        well_formed = and_from (is_element_number node.0.0) (is_pair (pair_of node.1.labels [])) parts.0 (labels_alone node.1.labels pair.labels);
      },
      sets (set_op (Node node.0)) (is_element_number node.0.0) (λ property formed. record { form = tt; well_formed = formed }) parts.0 node.1.props pair.names pair.values,
    )

-- a node that is found has a number of an element
found_number : (id : NodeId) (nodes : List (NodeId × NodeRow)) → list_all is_node_entry nodes ≡ true → is_some (lookup (is_at (node_cmp id)) nodes) ≡ true
    → is_element_number id.0 ≡ true
found_number id [] all found = absurd (cc)
found_number id (node ∷ nodes) all found = by (is_at (node_cmp id) node.0) refl found (found_number id nodes parts.1)
  where
    parts : (is_node_entry node ≡ true) × (list_all is_node_entry nodes ≡ true)
    parts = and_parts (is_node_entry node) (list_all is_node_entry nodes) all

    by : (b : Bool) → is_at (node_cmp id) node.0 ≡ b → is_some (cond b (Some node.1) (lookup (is_at (node_cmp id)) nodes)) ≡ true
        → (is_some (lookup (is_at (node_cmp id)) nodes) ≡ true → is_element_number id.0 ≡ true) → is_element_number id.0 ≡ true
    by true here there later =
        let same : id.0 ≡ node.0.0 = exact_unsigned id.0 node.0.0 ((Equal-is (nat_cmp id.0 node.0.0)).0 here) in
        ap is_element_number same ∙ (and_parts (is_element_number node.0.0) (is_pair node.1) parts.0).0
    by false other there later = later there

edge_ops_form : (g : Graph) → list_all is_node_entry g.nodes ≡ true → (edge : EdgeId × EdgeRow) → (is_edge_entry edge && has_ends g edge.1) ≡ true
    → is_small edge.1.labels edge.1.props ≡ true → AllByRecursion IsDumpOp (edge_ops edge)
edge_ops_form g nodes edge stands small =
    let both = and_parts (is_edge_entry edge) (has_ends g edge.1) stands in
    let ends = and_parts (is_some (node_at g edge.1.source)) (is_some (node_at g edge.1.target)) both.1 in
    let carried = pair_of edge.1.labels edge.1.props in
    let parts = and_parts (is_element_number edge.0.0) (is_pair carried) both.0 in
    let pair = pair_parts carried parts.1 in
    let number = is_element_number edge.0.0 in
    let from = is_element_number edge.1.source.0 in
    let to = is_element_number edge.1.target.0 in (
      record {
        form = (refl, (small_parts edge.1.labels edge.1.props small).0);
        well_formed = and_from (number && from && to) (is_pair (pair_of edge.1.labels []))
            (and_from (number && from) to
            (and_from number from parts.0 (found_number edge.1.source g.nodes nodes ends.0)) (found_number edge.1.target g.nodes nodes ends.1))
            (labels_alone edge.1.labels pair.labels);
      },
      sets (set_op (Edge edge.0)) number (λ property formed. record { form = tt; well_formed = formed }) parts.0 edge.1.props pair.names pair.values,
    )

both_pass : {X : Type 0} (p q : X → Bool) (xs : List X) → list_all p xs ≡ true → list_all q xs ≡ true → list_all (λ x. p x && q x) xs ≡ true
both_pass p q [] one other = refl
both_pass p q (x ∷ xs) one other =
    let first = and_parts (p x) (list_all p xs) one in
    let second = and_parts (q x) (list_all q xs) other in
    and_from (p x && q x) (list_all (λ x. p x && q x) xs) (and_from (p x) (q x) first.0 second.0) (both_pass p q xs first.1 second.1)

-- the operations that make a graph with small rows
pub graph_ops_form : (g : Graph) → is_graph g ≡ true → HasSmallRows g → AllByRecursion IsDumpOp (graph_ops g)
graph_ops_form g graph small =
    let is = graph_parts g graph in
    all_append IsDumpOp (flat_map node_ops g.nodes) (flat_map edge_ops g.edges)
    (all_flat IsDumpOp node_ops is_node_entry (λ (node : NodeId × NodeRow). is_small node.1.labels node.1.props) node_ops_form g.nodes is.nodes small.nodes)
    (all_flat IsDumpOp edge_ops (λ (edge : EdgeId × EdgeRow). is_edge_entry edge && has_ends g edge.1)
    (λ (edge : EdgeId × EdgeRow). is_small edge.1.labels edge.1.props) (edge_ops_form g is.nodes) g.edges
    (both_pass is_edge_entry (λ (edge : EdgeId × EdgeRow). has_ends g edge.1) g.edges is.edges is.ends) small.edges)
