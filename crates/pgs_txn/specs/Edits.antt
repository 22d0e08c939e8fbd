-- What one change makes of labels and of properties.
use Rattle.std.specs.Prelude.{ℕ, List, Result, Ok, Err, if◌then◌else◌}
use Rattle.pgs_base.specs.declared.element.NodeId.{NodeId}
use Rattle.pgs_base.specs.declared.element.EdgeId.{EdgeId}
use Rattle.pgs_base.specs.declared.row.NodeRow.{NodeRow}
use Rattle.pgs_base.specs.declared.row.EdgeRow.{EdgeRow}
use Rattle.pgs_base.specs.declared.value.Value.{Value}
use Rattle.pgs_base.specs.Graph.{Graph}
use Rattle.pgs_base.specs.Pair.{put_value, take_value, put_name, take_name}
use Rattle.pgs_violation.specs.Staging.{◌>>=◌, StepFault, TooLarge, is_small, node_or_fault, edge_or_fault, put_node, put_edge}
use Rattle.pgs_txn.specs.declared.edit.Edit.{Edit}
use Rattle.pgs_txn.specs.declared.edit.Edit.TheVariants.{Set, Unset, Label, Unlabel}

abbrev pub edited_labels : Edit → List (List ℕ) → List (List ℕ)
edited_labels (Set key value) labels = labels
edited_labels (Unset key) labels = labels
edited_labels (Label label) labels = put_name labels label.now
edited_labels (Unlabel label) labels = take_name labels label.now

abbrev pub edited_props : Edit → List (List ℕ × Value) → List (List ℕ × Value)
edited_props (Set key value) props = put_value props key.now value.now
edited_props (Unset key) props = take_value props key.now
edited_props (Label label) props = props
edited_props (Unlabel label) props = props

-- a row after a change
abbrev pub edited_node : Edit → NodeRow → NodeRow
edited_node edit row = record row { labels = edited_labels edit row.labels; props = edited_props edit row.props }

abbrev pub edited_edge : Edit → EdgeRow → EdgeRow
edited_edge edit row = record row { labels = edited_labels edit row.labels; props = edited_props edit row.props }

-- a row, where it isn't too large
abbrev pub small_node : NodeRow → Result NodeRow StepFault
small_node row = if is_small row.labels row.props then Ok row else Err TooLarge

abbrev pub small_edge : EdgeRow → Result EdgeRow StepFault
small_edge row = if is_small row.labels row.props then Ok row else Err TooLarge

-- the graph after a change of a node that is there, and of an edge that is
abbrev pub with_edited_node : Edit → Graph → NodeId → Result Graph StepFault
with_edited_node edit g id = node_or_fault g id >>= λ row. put_node g id (edited_node edit row)

abbrev pub with_edited_edge : Edit → Graph → EdgeId → Result Graph StepFault
with_edited_edge edit g id = edge_or_fault g id >>= λ row. put_edge g id (edited_edge edit row)
