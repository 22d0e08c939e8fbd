-- What has a payload has the sizes of one.
use Rattle.std.proofs.Common.{◌≡◌, ℕ, ◌^◌, Bool, true, ◌&&◌, List, [], ◌∷◌, length, refl}
use Rattle.std.specs.Prelude.{leb, ltb}
use Rattle.std.specs.Ordering.{nat_cmp}
use Rattle.std.specs.Cmp.Lexicographic.{slice_cmp}
use Rattle.std.specs.List.{list_all}
use Rattle.std.specs.Map.{keys_of}
use Rattle.std.proofs.lemmas.Bool.{and_parts, and_from}
use Rattle.pgs_base.specs.declared.element.NodeId.{NodeId}
use Rattle.pgs_base.specs.declared.element.EdgeId.{EdgeId}
use Rattle.pgs_base.specs.declared.row.NodeRow.{NodeRow}
use Rattle.pgs_base.specs.declared.row.EdgeRow.{EdgeRow}
use Rattle.pgs_base.specs.declared.value.Value.{Value}
use Rattle.pgs_base.specs.Graph.{is_graph}
use Rattle.pgs_base.specs.Name.{is_name}
use Rattle.pgs_base.specs.Order.{ascends}
use Rattle.pgs_graph.specs.declared.operation.Op.{Op}
use Rattle.pgs_graph.specs.declared.operation.Op.TheVariants.{AddNode, AddEdge}
use Rattle.pgs_codec.specs.declared.command.Command.{Command}
use Rattle.pgs_codec.specs.declared.command.Command.TheVariants as commands
use Rattle.pgs_codec.specs.Encodable.{is_wide, is_node_id, is_edge_id, is_labels, is_props, is_property, is_node_row, is_edge_row, is_node, is_edge, is_op, is_small, is_small_node, is_small_edge, adds_small, are_parts, snapshot_graph, is_sized, is_encodable}

all_weaker : {A : Type 0} (p q : A → Bool) (xs : List A) → ((x : A) → p x ≡ true → q x ≡ true) → list_all p xs ≡ true → list_all q xs ≡ true
all_weaker p q [] weaker e = refl
all_weaker p q (x ∷ xs) weaker e =
    let parts = and_parts (p x) (list_all p xs) e in
    and_from (q x) (list_all q xs) (weaker x parts.0) (all_weaker p q xs weaker parts.1)

-- the first of three
first_of_three : (a b c : Bool) → (a && b && c) ≡ true → a ≡ true
first_of_three a b c e = (and_parts a b (and_parts (a && b) c e).0).0

small : (labels : List (List ℕ)) (props : List (List ℕ × Value)) → (is_labels labels && is_props props) ≡ true → is_small labels props ≡ true
small labels props e =
    let parts = and_parts (is_labels labels) (is_props props) e in
    and_from (leb (length labels) 64) (leb (length props) 256)
    (first_of_three (leb (length labels) 64) (list_all is_name labels) (ascends (slice_cmp nat_cmp) labels) parts.0)
    (first_of_three (leb (length props) 256) (list_all is_property props) (ascends (slice_cmp nat_cmp) (keys_of props)) parts.1)

small_node : (node : NodeId × NodeRow) → is_node node ≡ true → is_small_node node.1 ≡ true
small_node node e = small node.1.labels node.1.props (and_parts (is_node_id node.0) (is_node_row node.1) e).1

small_edge : (edge : EdgeId × EdgeRow) → is_edge edge ≡ true → is_small_edge edge.1 ≡ true
small_edge edge e =
    let row = edge.1 in
    let inside = (and_parts (is_edge_id edge.0) (is_edge_row edge.1) e).1 in
    let behind = (and_parts (is_node_id row.source) (is_node_id row.target && (is_labels row.labels && is_props row.props)) inside).1 in
    small row.labels row.props (and_parts (is_node_id row.target) (is_labels row.labels && is_props row.props) behind).1

small_op : (op : Op) → is_op op ≡ true → adds_small op ≡ true
small_op (AddNode id labels props) e = small_node (id, record { labels = labels; props = props }) e
small_op (AddEdge id source target labels props) e = small_edge (id, record { source = source; target = target; labels = labels; props = props }) e
small_op op e = refl

pub encodable_sized : (command : Command) → is_encodable command ≡ true → is_sized command ≡ true
unfolding is_encodable
encodable_sized (commands.Schema text) e = refl
encodable_sized (commands.Snapshot commits nodes edges) e =
    let outer = and_parts (are_parts commits nodes edges) (is_graph (snapshot_graph nodes edges)) e in
    let lists = (and_parts (is_wide commits) _ outer.0).1 in
    let both = and_parts (ltb (length nodes) (2 ^ 64) && list_all is_node nodes) (ltb (length edges) (2 ^ 64) && list_all is_edge edges) lists in
    and_from (list_all (λ (node : NodeId × NodeRow). is_small_node node.1) nodes && list_all (λ (edge : EdgeId × EdgeRow). is_small_edge edge.1) edges) (is_graph (snapshot_graph nodes edges))
    (and_from _ _ (all_weaker is_node (λ (node : NodeId × NodeRow). is_small_node node.1) nodes small_node (and_parts _ (list_all is_node nodes) both.0).1)
    (all_weaker is_edge (λ (edge : EdgeId × EdgeRow). is_small_edge edge.1) edges small_edge (and_parts _ (list_all is_edge edges) both.1).1)) outer.1
encodable_sized (commands.Txn txn) e =
    let parts = and_parts (ltb (length txn.ops) (2 ^ 32)) (list_all is_op txn.ops) e in
    and_from (ltb (length txn.ops) (2 ^ 32)) (list_all adds_small txn.ops) parts.0 (all_weaker is_op adds_small txn.ops small_op parts.1)
