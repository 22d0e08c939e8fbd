-- What has a payload: names, values and rows as they are admitted, and counts and numbers that fit their bytes.
use Rattle.std.specs.Prelude.{◌≡◌, ◌^◌, ℕ, Bool, true, ◌&&◌, List, length, nat_le, nat_lt, IsTrue}
use Rattle.std.specs.Ordering.{nat_cmp}
use Rattle.std.specs.Cmp.Lexicographic.{slice_cmp}
use Rattle.std.specs.List.{list_all}
use Rattle.std.specs.Map.{keys_of}
use Rattle.pgs_base.specs.declared.element.NodeId.{NodeId}
use Rattle.pgs_base.specs.declared.element.EdgeId.{EdgeId}
use Rattle.pgs_base.specs.declared.row.NodeRow.{NodeRow}
use Rattle.pgs_base.specs.declared.row.EdgeRow.{EdgeRow}
use Rattle.pgs_base.specs.declared.value.Value.{Value}
use Rattle.pgs_base.specs.Day.{is_day}
use Rattle.pgs_base.specs.Graph.{Graph, is_graph}
use Rattle.pgs_base.specs.Order.{ascends}
use Rattle.pgs_base.specs.Name.{is_name}
use Rattle.pgs_base.specs.Value.{is_value}
use Rattle.pgs_graph.specs.declared.operation.Op.{Op}
use Rattle.pgs_graph.specs.declared.operation.Op.TheVariants.{AddNode, AddEdge, RemoveNode, DetachNode, RemoveEdge, SetNode, UnsetNode, LabelNode, UnlabelNode, SetEdge, UnsetEdge, LabelEdge, UnlabelEdge}
use Rattle.pgs_codec.specs.declared.command.Command.{Command}
use Rattle.pgs_codec.specs.declared.command.Command.TheVariants as commands
use Rattle.pgs_codec.specs.Payload.{payload_of}

-- ---- sizes, which a caller of `encode` answers for

-- whether there are at most 64 labels
abbrev pub are_small_labels : List (List ℕ) → Bool
are_small_labels labels = nat_le (length labels) 64

-- whether there are at most 256 properties
abbrev pub are_small_props : List (List ℕ × Value) → Bool
are_small_props props = nat_le (length props) 256

abbrev pub is_small : List (List ℕ) → List (List ℕ × Value) → Bool
is_small labels props = are_small_labels labels && are_small_props props

-- whether an operation adds a small row, or adds none
abbrev pub adds_small : Op → Bool
adds_small (AddNode id labels props) = is_small labels props
adds_small (AddEdge id source target labels props) = is_small labels props
adds_small op = true

abbrev pub is_small_node : NodeRow → Bool
is_small_node row = is_small row.labels row.props

abbrev pub is_small_edge : EdgeRow → Bool
is_small_edge row = is_small row.labels row.props

-- the graph of a snapshot
abbrev pub snapshot_graph : List (NodeId × NodeRow) → List (EdgeId × EdgeRow) → Graph
snapshot_graph nodes edges = record { nodes = nodes; edges = edges }

-- whether a command has the sizes of a payload: small rows and fewer than 2 ^ 32 operations. The rows of a snapshot are a graph:
-- the numbers of both lists ascend strictly, and both ends of each edge are among the nodes
abbrev pub is_sized : Command → Bool
is_sized (commands.Schema text) = true
is_sized (commands.Snapshot commits nodes edges) =
    list_all (λ (node : NodeId × NodeRow). is_small_node node.1) nodes && list_all (λ (edge : EdgeId × EdgeRow). is_small_edge edge.1) edges
    && is_graph (snapshot_graph nodes edges)
is_sized (commands.Txn txn) = nat_lt (length txn.ops) (2 ^ 32) && list_all adds_small txn.ops

-- ---- fields

-- at most 64 names that ascend strictly
abbrev pub is_labels : List (List ℕ) → Bool
is_labels labels = nat_le (length labels) 64 && list_all is_name labels && ascends (slice_cmp nat_cmp) labels

abbrev pub is_date : ℕ × ℕ × ℕ → Bool
is_date day = is_day day.0 day.1 day.2

-- a name and a value
abbrev pub is_property : List ℕ × Value → Bool
is_property property = is_name property.0 && is_value property.1

-- at most 256 properties whose names ascend strictly
abbrev pub is_props : List (List ℕ × Value) → Bool
is_props props = nat_le (length props) 256 && list_all is_property props && ascends (slice_cmp nat_cmp) (keys_of props)

-- a number of eight bytes
abbrev pub is_wide : ℕ → Bool
is_wide n = nat_lt n (2 ^ 64)

abbrev pub is_node_id : NodeId → Bool
is_node_id id = is_wide id.0

abbrev pub is_edge_id : EdgeId → Bool
is_edge_id id = is_wide id.0

abbrev pub is_node_row : NodeRow → Bool
is_node_row row = is_labels row.labels && is_props row.props

abbrev pub is_edge_row : EdgeRow → Bool
is_edge_row row = is_node_id row.source && (is_node_id row.target && (is_labels row.labels && is_props row.props))

abbrev pub is_node : NodeId × NodeRow → Bool
is_node node = is_node_id node.0 && is_node_row node.1

abbrev pub is_edge : EdgeId × EdgeRow → Bool
is_edge edge = is_edge_id edge.0 && is_edge_row edge.1

-- an operation of such fields
abbrev pub is_op : Op → Bool
is_op (AddNode id labels props) = is_node (id, record { labels = labels; props = props })
is_op (AddEdge id source target labels props) = is_edge (id, record { source = source; target = target; labels = labels; props = props })
is_op (RemoveNode id) = is_node_id id
is_op (DetachNode id) = is_node_id id
is_op (RemoveEdge id) = is_edge_id id
is_op (SetNode id key value) = is_node_id id && is_property (key, value)
is_op (UnsetNode id key) = is_node_id id && is_name key
is_op (LabelNode id label) = is_node_id id && is_name label
is_op (UnlabelNode id label) = is_node_id id && is_name label
is_op (SetEdge id key value) = is_edge_id id && is_property (key, value)
is_op (UnsetEdge id key) = is_edge_id id && is_name key
is_op (LabelEdge id label) = is_edge_id id && is_name label
is_op (UnlabelEdge id label) = is_edge_id id && is_name label

-- ---- commands

-- the commits, the nodes and the edges of a snapshot, each of which fits its bytes
abbrev pub are_parts : ℕ → List (NodeId × NodeRow) → List (EdgeId × EdgeRow) → Bool
are_parts commits nodes edges =
    is_wide commits
    && (nat_lt (length nodes) (2 ^ 64) && list_all is_node nodes && (nat_lt (length edges) (2 ^ 64) && list_all is_edge edges))

-- whether a command has a payload
unfoldable pub is_encodable : Command → Bool
is_encodable (commands.Schema text) = true
is_encodable (commands.Snapshot commits nodes edges) =
    are_parts commits nodes edges && is_graph (snapshot_graph nodes edges)
is_encodable (commands.Txn txn) = nat_lt (length txn.ops) (2 ^ 32) && list_all is_op txn.ops

-- the bytes are the payload of the command
pub record IsPayload (command : Command) (bytes : List ℕ) : Type 0 where
  pub encodable : IsTrue (is_encodable command)
  pub spelled : bytes ≡ payload_of command
