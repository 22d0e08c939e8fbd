-- The canonical text of a well-formed transaction is read as this transaction.
use Rattle.std.proofs.Common.{◌≡◌, ℕ, ◌^◌, ◌<◌, ◌≤◌, true, ◌&&◌, List, [], ◌∷◌, map, length, Some, None, Ok, decimal, IsUtf8, refl, ap, ◌∙◌, subst, arith}
use Rattle.std.specs.Prelude.{codes}
use Rattle.std.specs.Ordering.{nat_cmp}
use Rattle.std.specs.Cmp.Lexicographic.{slice_cmp}
use Rattle.std.specs.List.{list_all}
use Rattle.std.specs.List.Sorted.{IsStrictlySortedBy}
use Rattle.std.specs.Map.{keys_of}
use Rattle.std.proofs.lemmas.Bool.{and_parts, and_from, ltb-true, le-ltb}
use Rattle.std.proofs.lemmas.Str.{is_utf8-from_IsUtf8}
use Rattle.json.proofs.Printed.Utf8.{are_ascii, IsUtf8-are_ascii}
use Rattle.serde_json.specs.Data.{Data, unsigned, number, string, array, object, no_members, member}
use Rattle.serde_json.specs.View.{items_of}
use Rattle.pgs_base.specs.declared.text_limit.TheConstants.{TEXT_LIMIT}
use Rattle.pgs_base.specs.Graph.{is_element_number}
use Rattle.pgs_base.specs.declared.value.Value.{Value}
use Rattle.pgs_base.specs.Name.{is_name}
use Rattle.pgs_base.specs.Names.{are_names}
use Rattle.pgs_base.specs.Properties.{are_props, has_value}
use Rattle.pgs_base.specs.Pair.{is_pair, pair_of}
use Rattle.pgs_base.specs.Value.{is_value}
use Rattle.pgs_base.proofs.Ascending.{ascends_decides}
use Rattle.pgs_base_text.specs.Text.{quoted}
use Rattle.pgs_graph.specs.declared.operation.Op.{Op}
use Rattle.pgs_graph.specs.declared.operation.Op.TheVariants.{AddNode, AddEdge, RemoveNode, DetachNode, RemoveEdge, SetNode, UnsetNode, LabelNode, UnlabelNode, SetEdge, UnsetEdge, LabelEdge, UnlabelEdge}
use Rattle.pgs_graph.specs.declared.operation.Txn.{Txn}
use Rattle.pgs_graph.specs.Operations.{is_well_formed_op, is_well_formed_txn}
use Rattle.pgs_json.specs.Form.{each_item, labels_of, props_of, op_of, ops_of, form, add_node, add_edge, with_id, with_name, with_value}
use Rattle.pgs_json.specs.Kinds.{kind_named, op_told}
use Rattle.pgs_json.specs.Line.{txn_of, read_line}
use Rattle.pgs_json.specs.Canonical.{value_text, labels_text, props_text, op_text, ops_text, text_of_txn}
use Rattle.pgs_json.proofs.Spelt.{Spelt, deeper, read_spelt, spelt_string, spelt_number, spelt_list, AllSpelt}
use Rattle.pgs_json.proofs.Parts.{is_prop, name_utf8, spelt_parts, value_data, spelt_value, value_read, labels_data, spelt_labels, labels_read, own_set, props_data, spelt_props, props_read, own_map}
use Rattle.pgs_json.proofs.ToldKinds.{op_of_told}

pub ascii : (name : List ℕ) → are_ascii name ≡ true → IsUtf8 name
ascii name e = IsUtf8-are_ascii name e

abbrev pub id_data : ℕ → Data
id_data n = number (unsigned n)

pub spelt_id : (levels n : ℕ) → n < 2 ^ 64 → Spelt (decimal n) (id_data n) levels
spelt_id levels n h = deeper _ _ 0 levels (spelt_number n h) (omega arith)

spelt_name : (levels : ℕ) (name : List ℕ) → is_name name ≡ true → Spelt (quoted name) (string name) levels
spelt_name levels name h = deeper _ _ 0 levels (spelt_string name (name_utf8 name h)) (omega arith)

-- ---- labels and properties of an element

record Pair (labels : List (List ℕ)) (props : List (List ℕ × Value)) : Type 0 where
  labels_spelt : Spelt (labels_text labels) (labels_data labels) 2
  props_spelt : Spelt (props_text props) (props_data props) 2
  labels_of_it : labels_of (labels_data labels) ≡ Some labels
  props_of_it : props_of (props_data props) ≡ Some props

all_props : (props : List (List ℕ × Value)) → list_all is_name (keys_of props) ≡ true → list_all has_value props ≡ true → list_all is_prop props ≡ true
all_props [] k v = refl
all_props (p ∷ ps) k v =
    let a = and_parts (is_name p.0) _ k in
    let b = and_parts (is_value p.1) _ v in
    and_from (is_prop p) _ (and_from (is_name p.0) _ a.0 b.0) (all_props ps a.1 b.1)

pair_by : (labels : List (List ℕ)) (props : List (List ℕ × Value)) → IsStrictlySortedBy (slice_cmp nat_cmp) labels → list_all is_name labels ≡ true
    → IsStrictlySortedBy (slice_cmp nat_cmp) (keys_of props) → list_all is_prop props ≡ true → Pair labels props
pair_by labels props s names t so = record {
  labels_spelt = deeper _ _ 1 2 (spelt_labels labels names) (omega arith);
  props_spelt = subst (λ (ps : List (List ℕ × Value)). Spelt (props_text props) (props_data ps) 2) (own_map props t) (spelt_props props so);
  labels_of_it = labels_read labels names ∙ ap (λ (ls : List (List ℕ)). Some ls) (own_set labels s);
  props_of_it = props_read props so ∙ ap (λ (ps : List (List ℕ × Value)). Some ps) (own_map props t);
}

pair_from : (labels : List (List ℕ)) (props : List (List ℕ × Value)) → is_pair (pair_of labels props) ≡ true → Pair labels props
pair_from labels props h =
    let a = and_parts (are_names labels) (are_props props) h in
    let b = and_parts _ (list_all is_name labels) a.0 in
    let c = and_parts (are_names (keys_of props)) (list_all has_value props) a.1 in
    let d = and_parts _ (list_all is_name (keys_of props)) c.0 in
    pair_by labels props ((ascends_decides (slice_cmp nat_cmp) labels).0 b.0) b.1 ((ascends_decides (slice_cmp nat_cmp) (keys_of props)).0 d.0)
    (all_props props d.1 c.1)

-- ---- operations

abbrev pub op_data : Op → Data
op_data (AddNode id labels props) =
    object (member (codes "add_node") (id_data id.0) (member (codes "labels") (labels_data labels) (member (codes "props") (props_data props) no_members)))
op_data (AddEdge id source target labels props) =
    object
    (member (codes "add_edge") (id_data id.0) (member (codes "from") (id_data source.0) (member (codes "labels") (labels_data labels)
    (member (codes "props") (props_data props) (member (codes "to") (id_data target.0) no_members)))))
op_data (RemoveNode id) = object (member (codes "remove_node") (id_data id.0) no_members)
op_data (DetachNode id) = object (member (codes "detach_node") (id_data id.0) no_members)
op_data (RemoveEdge id) = object (member (codes "remove_edge") (id_data id.0) no_members)
op_data (SetNode id key value) =
    object (member (codes "key") (string key) (member (codes "set_node") (id_data id.0) (member (codes "value") (value_data value) no_members)))
op_data (SetEdge id key value) =
    object (member (codes "key") (string key) (member (codes "set_edge") (id_data id.0) (member (codes "value") (value_data value) no_members)))
op_data (UnsetNode id key) = object (member (codes "key") (string key) (member (codes "unset_node") (id_data id.0) no_members))
op_data (UnsetEdge id key) = object (member (codes "key") (string key) (member (codes "unset_edge") (id_data id.0) no_members))
op_data (LabelNode id label) = object (member (codes "label") (string label) (member (codes "label_node") (id_data id.0) no_members))
op_data (LabelEdge id label) = object (member (codes "label") (string label) (member (codes "label_edge") (id_data id.0) no_members))
op_data (UnlabelNode id label) = object (member (codes "label") (string label) (member (codes "unlabel_node") (id_data id.0) no_members))
op_data (UnlabelEdge id label) = object (member (codes "label") (string label) (member (codes "unlabel_edge") (id_data id.0) no_members))

pub spelt_op : (op : Op) → is_well_formed_op op ≡ true → Spelt (op_text op) (op_data op) 3
spelt_op (AddNode id labels props) h =
    let a = and_parts (is_element_number id.0) (is_pair (pair_of labels props)) h in
    let p = pair_from labels props a.1 in
    spelt_parts 2
    ((codes "add_node", decimal id.0, id_data id.0) ∷ (codes "labels", labels_text labels, labels_data labels) ∷ (codes "props", props_text props, props_data props) ∷ []) (
      (ascii (codes "add_node") refl, spelt_id 2 id.0 (ltb-true id.0 (2 ^ 64) a.0)),
      ((ascii (codes "labels") refl, p.labels_spelt), ((ascii (codes "props") refl, p.props_spelt), tt)),
    )
spelt_op (AddEdge id source target labels props) h =
    let a = and_parts (is_element_number id.0 && is_element_number source.0 && is_element_number target.0) (is_pair (pair_of labels props)) h in
    let b = and_parts (is_element_number id.0 && is_element_number source.0) (is_element_number target.0) a.0 in
    let d = and_parts (is_element_number id.0) (is_element_number source.0) b.0 in
    let p = pair_from labels props a.1 in
    spelt_parts 2
    ((codes "add_edge", decimal id.0, id_data id.0) ∷ (codes "from", decimal source.0, id_data source.0)
    ∷ (codes "labels", labels_text labels, labels_data labels) ∷ (codes "props", props_text props, props_data props)
    ∷ (codes "to", decimal target.0, id_data target.0) ∷ []) (
      (ascii (codes "add_edge") refl, spelt_id 2 id.0 (ltb-true id.0 (2 ^ 64) d.0)),
      (
        (ascii (codes "from") refl, spelt_id 2 source.0 (ltb-true source.0 (2 ^ 64) d.1)),
        (
          (ascii (codes "labels") refl, p.labels_spelt),
          (
            (ascii (codes "props") refl, p.props_spelt),
            ((ascii (codes "to") refl, spelt_id 2 target.0 (ltb-true target.0 (2 ^ 64) b.1)), tt),
          ),
        ),
      ),
    )
spelt_op (RemoveNode id) h =
    spelt_parts 2 ((codes "remove_node", decimal id.0, id_data id.0) ∷ []) ((ascii (codes "remove_node") refl, spelt_id 2 id.0 (ltb-true id.0 (2 ^ 64) h)), tt)
spelt_op (DetachNode id) h =
    spelt_parts 2 ((codes "detach_node", decimal id.0, id_data id.0) ∷ []) ((ascii (codes "detach_node") refl, spelt_id 2 id.0 (ltb-true id.0 (2 ^ 64) h)), tt)
spelt_op (RemoveEdge id) h =
    spelt_parts 2 ((codes "remove_edge", decimal id.0, id_data id.0) ∷ []) ((ascii (codes "remove_edge") refl, spelt_id 2 id.0 (ltb-true id.0 (2 ^ 64) h)), tt)
spelt_op (SetNode id key value) h =
    let a = and_parts (is_element_number id.0 && is_name key) (is_value value) h in
    let b = and_parts (is_element_number id.0) (is_name key) a.0 in
    spelt_parts 2
    ((codes "key", quoted key, string key) ∷ (codes "set_node", decimal id.0, id_data id.0) ∷ (codes "value", value_text value, value_data value) ∷ []) (
      (ascii (codes "key") refl, spelt_name 2 key b.1),
      (
        (ascii (codes "set_node") refl, spelt_id 2 id.0 (ltb-true id.0 (2 ^ 64) b.0)),
        ((ascii (codes "value") refl, deeper _ _ 1 2 (spelt_value value a.1) (omega arith)), tt),
      ),
    )
spelt_op (SetEdge id key value) h =
    let a = and_parts (is_element_number id.0 && is_name key) (is_value value) h in
    let b = and_parts (is_element_number id.0) (is_name key) a.0 in
    spelt_parts 2
    ((codes "key", quoted key, string key) ∷ (codes "set_edge", decimal id.0, id_data id.0) ∷ (codes "value", value_text value, value_data value) ∷ []) (
      (ascii (codes "key") refl, spelt_name 2 key b.1),
      (
        (ascii (codes "set_edge") refl, spelt_id 2 id.0 (ltb-true id.0 (2 ^ 64) b.0)),
        ((ascii (codes "value") refl, deeper _ _ 1 2 (spelt_value value a.1) (omega arith)), tt),
      ),
    )
spelt_op (UnsetNode id key) h =
    let a = and_parts (is_element_number id.0) (is_name key) h in
    spelt_parts 2 ((codes "key", quoted key, string key) ∷ (codes "unset_node", decimal id.0, id_data id.0) ∷ [])
    ((ascii (codes "key") refl, spelt_name 2 key a.1), ((ascii (codes "unset_node") refl, spelt_id 2 id.0 (ltb-true id.0 (2 ^ 64) a.0)), tt))
spelt_op (UnsetEdge id key) h =
    let a = and_parts (is_element_number id.0) (is_name key) h in
    spelt_parts 2 ((codes "key", quoted key, string key) ∷ (codes "unset_edge", decimal id.0, id_data id.0) ∷ [])
    ((ascii (codes "key") refl, spelt_name 2 key a.1), ((ascii (codes "unset_edge") refl, spelt_id 2 id.0 (ltb-true id.0 (2 ^ 64) a.0)), tt))
spelt_op (LabelNode id label) h =
    let a = and_parts (is_element_number id.0) (is_name label) h in
    spelt_parts 2 ((codes "label", quoted label, string label) ∷ (codes "label_node", decimal id.0, id_data id.0) ∷ [])
    ((ascii (codes "label") refl, spelt_name 2 label a.1), ((ascii (codes "label_node") refl, spelt_id 2 id.0 (ltb-true id.0 (2 ^ 64) a.0)), tt))
spelt_op (LabelEdge id label) h =
    let a = and_parts (is_element_number id.0) (is_name label) h in
    spelt_parts 2 ((codes "label", quoted label, string label) ∷ (codes "label_edge", decimal id.0, id_data id.0) ∷ [])
    ((ascii (codes "label") refl, spelt_name 2 label a.1), ((ascii (codes "label_edge") refl, spelt_id 2 id.0 (ltb-true id.0 (2 ^ 64) a.0)), tt))
spelt_op (UnlabelNode id label) h =
    let a = and_parts (is_element_number id.0) (is_name label) h in
    spelt_parts 2 ((codes "label", quoted label, string label) ∷ (codes "unlabel_node", decimal id.0, id_data id.0) ∷ [])
    ((ascii (codes "label") refl, spelt_name 2 label a.1), ((ascii (codes "unlabel_node") refl, spelt_id 2 id.0 (ltb-true id.0 (2 ^ 64) a.0)), tt))
spelt_op (UnlabelEdge id label) h =
    let a = and_parts (is_element_number id.0) (is_name label) h in
    spelt_parts 2 ((codes "label", quoted label, string label) ∷ (codes "unlabel_edge", decimal id.0, id_data id.0) ∷ [])
    ((ascii (codes "label") refl, spelt_name 2 label a.1), ((ascii (codes "unlabel_edge") refl, spelt_id 2 id.0 (ltb-true id.0 (2 ^ 64) a.0)), tt))

pub op_read : (op : Op) → is_well_formed_op op ≡ true → op_told (op_data op) ≡ Some op
unfolding kind_named add_node add_edge with_id with_name with_value
op_read (AddNode id labels props) h =
    let p = pair_from labels props (and_parts (is_element_number id.0) _ h).1 in
    rw (p.labels_of_it, p.props_of_it) refl
op_read (AddEdge id source target labels props) h =
    let p = pair_from labels props (and_parts (is_element_number id.0 && is_element_number source.0 && is_element_number target.0) _ h).1 in
    rw (p.labels_of_it, p.props_of_it) refl
op_read (RemoveNode id) h = refl
op_read (DetachNode id) h = refl
op_read (RemoveEdge id) h = refl
op_read (SetNode id key value) h =
    let a = and_parts (is_element_number id.0 && is_name key) (is_value value) h in
    rw ((and_parts (is_element_number id.0) (is_name key) a.0).1, value_read value a.1) refl
op_read (SetEdge id key value) h =
    let a = and_parts (is_element_number id.0 && is_name key) (is_value value) h in
    rw ((and_parts (is_element_number id.0) (is_name key) a.0).1, value_read value a.1) refl
op_read (UnsetNode id key) h = rw (and_parts (is_element_number id.0) (is_name key) h).1 refl
op_read (UnsetEdge id key) h = rw (and_parts (is_element_number id.0) (is_name key) h).1 refl
op_read (LabelNode id label) h = rw (and_parts (is_element_number id.0) (is_name label) h).1 refl
op_read (LabelEdge id label) h = rw (and_parts (is_element_number id.0) (is_name label) h).1 refl
op_read (UnlabelNode id label) h = rw (and_parts (is_element_number id.0) (is_name label) h).1 refl
op_read (UnlabelEdge id label) h = rw (and_parts (is_element_number id.0) (is_name label) h).1 refl

-- ---- transactions

pub all_ops : (ops : List Op) → list_all is_well_formed_op ops ≡ true → AllSpelt op_text op_data 3 ops
all_ops [] h = tt
all_ops (op ∷ ops) h = let a = and_parts (is_well_formed_op op) _ h in (spelt_op op a.0, all_ops ops a.1)

pub ops_read : (ops : List Op) → list_all is_well_formed_op ops ≡ true → each_item op_of (items_of (map op_data ops)) ≡ Some ops
ops_read [] h = refl
ops_read (op ∷ ops) h =
    let a = and_parts (is_well_formed_op op) _ h in
    let first : op_of (op_data op) ≡ Some op = op_of_told (op_data op) ∙ op_read op a.0 in
    rw (first, ops_read ops a.1) refl

abbrev txn_data : List Op → Data
txn_data ops = object (member (codes "ops") (array (items_of (map op_data ops))) no_members)

spelt_txn : (txn : Txn) → is_well_formed_txn txn ≡ true → Spelt (text_of_txn txn None) (txn_data txn.ops) 5
unfolding text_of_txn
spelt_txn txn h =
    spelt_parts 4 ((codes "ops", ops_text txn, array (items_of (map op_data txn.ops))) ∷ [])
    ((ascii (codes "ops") refl, spelt_list op_text op_data 3 txn.ops (all_ops txn.ops h)), tt)

form_read : (txn : Txn) → is_well_formed_txn txn ≡ true → form (txn_data txn.ops) ≡ Some txn
unfolding form ops_of
form_read txn h = rw (ops_read txn.ops h) refl

-- what a text that spells data names
pub txn_of_spelt : (text : List ℕ) (d : Data) (levels : ℕ) → Spelt text d levels → levels ≤ 127 → txn_of text ≡ form d
unfolding txn_of
txn_of_spelt text d levels s h =
    rw (is_utf8-from_IsUtf8 text s.utf8, read_spelt text d (deeper _ _ levels 127 s h)) refl

pub written_read : (txn : Txn) → is_well_formed_txn txn ≡ true → txn_of (text_of_txn txn None) ≡ Some txn
written_read txn h = txn_of_spelt (text_of_txn txn None) (txn_data txn.ops) 5 (spelt_txn txn h) (omega arith) ∙ form_read txn h

pub written_line_read : (txn : Txn) → is_well_formed_txn txn ≡ true → length (text_of_txn txn None) ≤ TEXT_LIMIT → read_line (text_of_txn txn None) ≡ Ok txn
unfolding read_line
written_line_read txn h short = rw (le-ltb TEXT_LIMIT (length (text_of_txn txn None)) short, written_read txn h) refl
