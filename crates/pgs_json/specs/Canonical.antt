-- The canonical text of a transaction: no spaces, and the members of each object in the byte order of their names.
use Rattle.std.specs.Prelude.{ℕ, List, [], ◌∷◌, ◌++◌, map, Option, Some, None, codes, decimal}
use Rattle.std.specs.Fmt.{signed_decimal}
use Rattle.std.specs.List.{join_with_byte}
use Rattle.pgs_base.specs.declared.value.Value.{Value}
use Rattle.pgs_base.specs.declared.value.Value.TheVariants as values
use Rattle.pgs_base_text.specs.Text.{quoted, day_text, truth_text}
use Rattle.pgs_graph.specs.declared.operation.Op.{Op}
use Rattle.pgs_graph.specs.declared.operation.Op.TheVariants.{AddNode, AddEdge, RemoveNode, DetachNode, RemoveEdge, SetNode, UnsetNode, LabelNode, UnlabelNode, SetEdge, UnsetEdge, LabelEdge, UnlabelEdge}
use Rattle.pgs_graph.specs.declared.operation.Txn.{Txn}

-- ---- lists and objects

abbrev pub list_text : List (List ℕ) → List ℕ
list_text items = codes "[" ++ (join_with_byte 44 items ++ codes "]")

-- a name with the text of its value
abbrev pub member_text : List ℕ × List ℕ → List ℕ
member_text m = quoted m.0 ++ (codes ":" ++ m.1)

abbrev pub object_text : List (List ℕ × List ℕ) → List ℕ
object_text ms = codes "{" ++ (join_with_byte 44 (map member_text ms) ++ codes "}")

-- ---- values, labels and properties

abbrev pub value_text : Value → List ℕ
value_text (values.Text text) = quoted text
value_text (values.Int number) = signed_decimal number
value_text (values.Bool truth) = truth_text truth
value_text (values.Date day) = object_text ((codes "date", quoted (day_text day)) ∷ [])

abbrev pub labels_text : List (List ℕ) → List ℕ
labels_text labels = list_text (map quoted labels)

abbrev pub pair_text : List ℕ × Value → List ℕ × List ℕ
pair_text p = (p.0, value_text p.1)

abbrev pub props_text : List (List ℕ × Value) → List ℕ
props_text props = object_text (map pair_text props)

-- ---- operations and transactions

abbrev pub op_text : Op → List ℕ
op_text (AddNode id labels props) =
    object_text ((codes "add_node", decimal id.0) ∷ (codes "labels", labels_text labels) ∷ (codes "props", props_text props) ∷ [])
op_text (AddEdge id source target labels props) =
    object_text
    ((codes "add_edge", decimal id.0) ∷ (codes "from", decimal source.0) ∷ (codes "labels", labels_text labels)
    ∷ (codes "props", props_text props) ∷ (codes "to", decimal target.0) ∷ [])
op_text (RemoveNode id) = object_text ((codes "remove_node", decimal id.0) ∷ [])
op_text (DetachNode id) = object_text ((codes "detach_node", decimal id.0) ∷ [])
op_text (RemoveEdge id) = object_text ((codes "remove_edge", decimal id.0) ∷ [])
op_text (SetNode id key value) =
    object_text ((codes "key", quoted key) ∷ (codes "set_node", decimal id.0) ∷ (codes "value", value_text value) ∷ [])
op_text (UnsetNode id key) = object_text ((codes "key", quoted key) ∷ (codes "unset_node", decimal id.0) ∷ [])
op_text (LabelNode id label) = object_text ((codes "label", quoted label) ∷ (codes "label_node", decimal id.0) ∷ [])
op_text (UnlabelNode id label) = object_text ((codes "label", quoted label) ∷ (codes "unlabel_node", decimal id.0) ∷ [])
op_text (SetEdge id key value) =
    object_text ((codes "key", quoted key) ∷ (codes "set_edge", decimal id.0) ∷ (codes "value", value_text value) ∷ [])
op_text (UnsetEdge id key) = object_text ((codes "key", quoted key) ∷ (codes "unset_edge", decimal id.0) ∷ [])
op_text (LabelEdge id label) = object_text ((codes "label", quoted label) ∷ (codes "label_edge", decimal id.0) ∷ [])
op_text (UnlabelEdge id label) = object_text ((codes "label", quoted label) ∷ (codes "unlabel_edge", decimal id.0) ∷ [])

abbrev pub ops_text : Txn → List ℕ
ops_text txn = list_text (map op_text txn.ops)

-- the canonical text, with the number of the commit where there is one
unfoldable pub text_of_txn : Txn → Option ℕ → List ℕ
text_of_txn txn None = object_text ((codes "ops", ops_text txn) ∷ [])
text_of_txn txn (Some commit) = object_text ((codes "commit", decimal commit) ∷ (codes "ops", ops_text txn) ∷ [])
