-- The payload of each command, field by field. Numbers stand with the highest byte first.
use Rattle.std.specs.Prelude.{ℕ, Bool, true, false, List, [], ◌∷◌, ◌++◌, length, flat_map}
use Rattle.std.specs.Int.{w16, w32, w64, to_be_bytes, cast_unsigned}
use Rattle.pgs_base.specs.declared.element.NodeId.{NodeId}
use Rattle.pgs_base.specs.declared.element.EdgeId.{EdgeId}
use Rattle.pgs_base.specs.declared.row.NodeRow.{NodeRow}
use Rattle.pgs_base.specs.declared.row.EdgeRow.{EdgeRow}
use Rattle.pgs_base.specs.declared.value.Value.{Value}
use Rattle.pgs_base.specs.declared.value.Value.TheVariants as values
use Rattle.pgs_graph.specs.declared.operation.Op.{Op}
use Rattle.pgs_graph.specs.declared.operation.Op.TheVariants.{AddNode, AddEdge, RemoveNode, DetachNode, RemoveEdge, SetNode, UnsetNode, LabelNode, UnlabelNode, SetEdge, UnsetEdge, LabelEdge, UnlabelEdge}
use Rattle.pgs_codec.specs.declared.command.Command.{Command}
use Rattle.pgs_codec.specs.declared.command.Command.TheVariants as commands

-- ---- fields

-- one byte of length, and the bytes
abbrev pub name_field : List ℕ → List ℕ
name_field name = length name ∷ name

-- two bytes of count, and the names
abbrev pub labels_field : List (List ℕ) → List ℕ
labels_field labels = to_be_bytes w16 (length labels) ++ flat_map name_field labels

abbrev pub truth_byte : Bool → ℕ
truth_byte true = 1
truth_byte false = 0

-- two bytes of length, and the bytes
abbrev pub text_field : List ℕ → List ℕ
text_field text = to_be_bytes w16 (length text) ++ text

-- two bytes of year, one of month and one of day
abbrev pub day_field : ℕ × ℕ × ℕ → List ℕ
day_field day = to_be_bytes w16 day.0 ++ day.1 ∷ day.2 ∷ []

-- a byte for the kind, and then the text; eight bytes of a number in two's complement; a byte that is 1 where it is true and
-- else 0; or the day
abbrev pub value_field : Value → List ℕ
value_field (values.Text text) = 1 ∷ text_field text
value_field (values.Int number) = 2 ∷ to_be_bytes w64 (cast_unsigned w64 number)
value_field (values.Bool truth) = 3 ∷ truth_byte truth ∷ []
value_field (values.Date day) = 4 ∷ day_field day

-- a name and its value
abbrev pub property_field : List ℕ × Value → List ℕ
property_field property = name_field property.0 ++ value_field property.1

-- two bytes of count, and the properties
abbrev pub props_field : List (List ℕ × Value) → List ℕ
props_field props = to_be_bytes w16 (length props) ++ flat_map property_field props

-- eight bytes
abbrev pub node_id_field : NodeId → List ℕ
node_id_field id = to_be_bytes w64 id.0

abbrev pub edge_id_field : EdgeId → List ℕ
edge_id_field id = to_be_bytes w64 id.0

-- ---- rows

-- the labels and the properties
abbrev pub node_row_field : NodeRow → List ℕ
node_row_field row = labels_field row.labels ++ props_field row.props

-- the two ends, the labels and the properties
abbrev pub edge_row_field : EdgeRow → List ℕ
edge_row_field row = node_id_field row.source ++ (node_id_field row.target ++ (labels_field row.labels ++ props_field row.props))

-- a number and the row of the node
abbrev pub node_field : NodeId × NodeRow → List ℕ
node_field node = node_id_field node.0 ++ node_row_field node.1

abbrev pub edge_field : EdgeId × EdgeRow → List ℕ
edge_field edge = edge_id_field edge.0 ++ edge_row_field edge.1

-- ---- operations

-- a byte for the kind, and the fields of the operation in order
abbrev pub op_field : Op → List ℕ
op_field (AddNode id labels props) = 1 ∷ node_field (id, record { labels = labels; props = props })
op_field (AddEdge id source target labels props) =
    2 ∷ edge_field (id, record { source = source; target = target; labels = labels; props = props })
op_field (RemoveNode id) = 3 ∷ node_id_field id
op_field (DetachNode id) = 4 ∷ node_id_field id
op_field (RemoveEdge id) = 5 ∷ edge_id_field id
op_field (SetNode id key value) = 6 ∷ (node_id_field id ++ (name_field key ++ value_field value))
op_field (UnsetNode id key) = 7 ∷ (node_id_field id ++ name_field key)
op_field (LabelNode id label) = 8 ∷ (node_id_field id ++ name_field label)
op_field (UnlabelNode id label) = 9 ∷ (node_id_field id ++ name_field label)
op_field (SetEdge id key value) = 10 ∷ (edge_id_field id ++ (name_field key ++ value_field value))
op_field (UnsetEdge id key) = 11 ∷ (edge_id_field id ++ name_field key)
op_field (LabelEdge id label) = 12 ∷ (edge_id_field id ++ name_field label)
op_field (UnlabelEdge id label) = 13 ∷ (edge_id_field id ++ name_field label)

-- ---- payloads

-- four bytes of count, and the operations
abbrev pub ops_field : List Op → List ℕ
ops_field ops = to_be_bytes w32 (length ops) ++ flat_map op_field ops

-- eight bytes of count, and the rows
abbrev pub rows_field : {A : Type 0} → (A → List ℕ) → List A → List ℕ
rows_field row rows = to_be_bytes w64 (length rows) ++ flat_map row rows

abbrev pub nodes_field : List (NodeId × NodeRow) → List ℕ
nodes_field = rows_field node_field

abbrev pub edges_field : List (EdgeId × EdgeRow) → List ℕ
edges_field = rows_field edge_field

-- the commits, the nodes and the edges
abbrev pub snapshot_field : ℕ → List (NodeId × NodeRow) → List (EdgeId × EdgeRow) → List ℕ
snapshot_field commits nodes edges = to_be_bytes w64 commits ++ (nodes_field nodes ++ edges_field edges)

-- the one payload of a command
unfoldable pub payload_of : Command → List ℕ
payload_of (commands.Schema text) = 1 ∷ text
payload_of (commands.Snapshot commits nodes edges) = 2 ∷ snapshot_field commits nodes edges
payload_of (commands.Txn txn) = 3 ∷ ops_field txn.ops
