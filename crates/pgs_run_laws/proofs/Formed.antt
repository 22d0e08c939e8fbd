-- An operation that is read of bytes is well formed.
use Rattle.std.proofs.Common.{◌≡◌, ℕ, true, ◌&&◌, List, [], ◌∷◌, length, refl}
use Rattle.std.specs.Prelude.{nat_le}
use Rattle.std.specs.Ordering.{nat_cmp}
use Rattle.std.specs.Cmp.Lexicographic.{slice_cmp}
use Rattle.std.specs.List.{list_all}
use Rattle.std.specs.Map.{keys_of}
use Rattle.std.proofs.lemmas.Bool.{and_parts, and_from}
use Rattle.pgs_base.specs.declared.value.Value.{Value}
use Rattle.pgs_base.specs.Graph.{is_element_number}
use Rattle.pgs_base.specs.Name.{is_name}
use Rattle.pgs_base.specs.Order.{ascends}
use Rattle.pgs_base.specs.Pair.{pair_of, is_pair, are_names, are_props}
use Rattle.pgs_base.specs.Properties.{has_value}
use Rattle.pgs_base.specs.Value.{is_value}
use Rattle.pgs_codec.specs.Encodable.{is_labels, is_props, is_property, is_node_id, is_edge_id, is_op}
use Rattle.pgs_graph.specs.declared.operation.Op.{Op}
use Rattle.pgs_graph.specs.declared.operation.Op.TheVariants.{AddNode, AddEdge, RemoveNode, DetachNode, RemoveEdge, SetNode, UnsetNode, LabelNode, UnlabelNode, SetEdge, UnsetEdge, LabelEdge, UnlabelEdge}
use Rattle.pgs_graph.specs.Operations.{is_well_formed_op}

labels_formed : (labels : List (List ℕ)) → is_labels labels ≡ true → are_names labels ≡ true
labels_formed labels h =
    let outer = and_parts (nat_le (length labels) 64 && list_all is_name labels) (ascends (slice_cmp nat_cmp) labels) h in
    let inner = and_parts (nat_le (length labels) 64) (list_all is_name labels) outer.0 in
    and_from (ascends (slice_cmp nat_cmp) labels) (list_all is_name labels) outer.1 inner.1

names_in : (props : List (List ℕ × Value)) → list_all is_property props ≡ true → list_all is_name (keys_of props) ≡ true
names_in [] h = refl
names_in (property ∷ props) h =
    let parts = and_parts (is_property property) (list_all is_property props) h in
    and_from (is_name property.0) (list_all is_name (keys_of props)) (and_parts (is_name property.0) (is_value property.1) parts.0).0 (names_in props parts.1)

values_in : (props : List (List ℕ × Value)) → list_all is_property props ≡ true → list_all has_value props ≡ true
values_in [] h = refl
values_in (property ∷ props) h =
    let parts = and_parts (is_property property) (list_all is_property props) h in
    and_from (is_value property.1) (list_all has_value props) (and_parts (is_name property.0) (is_value property.1) parts.0).1 (values_in props parts.1)

props_formed : (props : List (List ℕ × Value)) → is_props props ≡ true → are_props props ≡ true
props_formed props h =
    let names = keys_of props in
    let outer = and_parts (nat_le (length props) 256 && list_all is_property props) (ascends (slice_cmp nat_cmp) names) h in
    let inner = and_parts (nat_le (length props) 256) (list_all is_property props) outer.0 in
    and_from (are_names names) (list_all has_value props)
    (and_from (ascends (slice_cmp nat_cmp) names) (list_all is_name names) outer.1 (names_in props inner.1))
    (values_in props inner.1)

pair_formed : (labels : List (List ℕ)) (props : List (List ℕ × Value)) → (is_labels labels && is_props props) ≡ true → is_pair (pair_of labels props) ≡ true
pair_formed labels props h =
    let parts = and_parts (is_labels labels) (is_props props) h in
    and_from (are_names labels) (are_props props) (labels_formed labels parts.0) (props_formed props parts.1)

pub op_formed : (op : Op) → is_op op ≡ true → is_well_formed_op op ≡ true
op_formed (AddNode id labels props) h =
    let parts = and_parts (is_node_id id) (is_labels labels && is_props props) h in
    and_from (is_element_number id.0) (is_pair (pair_of labels props)) parts.0 (pair_formed labels props parts.1)
op_formed (AddEdge id source target labels props) h =
    let parts = and_parts (is_edge_id id) (is_node_id source && (is_node_id target && (is_labels labels && is_props props))) h in
    let from = and_parts (is_node_id source) (is_node_id target && (is_labels labels && is_props props)) parts.1 in
    let to = and_parts (is_node_id target) (is_labels labels && is_props props) from.1 in
    and_from (is_element_number id.0 && is_element_number source.0 && is_element_number target.0) (is_pair (pair_of labels props))
    (and_from (is_element_number id.0 && is_element_number source.0) (is_element_number target.0)
    (and_from (is_element_number id.0) (is_element_number source.0) parts.0 from.0) to.0)
    (pair_formed labels props to.1)
op_formed (RemoveNode id) h = h
op_formed (DetachNode id) h = h
op_formed (RemoveEdge id) h = h
op_formed (SetNode id key value) h =
    let parts = and_parts (is_node_id id) (is_property (key, value)) h in
    let inner = and_parts (is_name key) (is_value value) parts.1 in
    and_from (is_element_number id.0 && is_name key) (is_value value) (and_from (is_element_number id.0) (is_name key) parts.0 inner.0) inner.1
op_formed (UnsetNode id key) h = h
op_formed (LabelNode id label) h = h
op_formed (UnlabelNode id label) h = h
op_formed (SetEdge id key value) h =
    let parts = and_parts (is_edge_id id) (is_property (key, value)) h in
    let inner = and_parts (is_name key) (is_value value) parts.1 in
    and_from (is_element_number id.0 && is_name key) (is_value value) (and_from (is_element_number id.0) (is_name key) parts.0 inner.0) inner.1
op_formed (UnsetEdge id key) h = h
op_formed (LabelEdge id label) h = h
op_formed (UnlabelEdge id label) h = h

pub ops_formed : (ops : List Op) → list_all is_op ops ≡ true → list_all is_well_formed_op ops ≡ true
ops_formed [] h = refl
ops_formed (op ∷ ops) h =
    let parts = and_parts (is_op op) (list_all is_op ops) h in
    and_from (is_well_formed_op op) (list_all is_well_formed_op ops) (op_formed op parts.0) (ops_formed ops parts.1)
