use Rattle.std.proofs.Common.{refl}
use Rattle.std.specs.Str.{chars, is_utf8}
use Rattle.serde_json.proofs.OnLiterals.{serde_json_on_literals}
use Rattle.pgs_base.specs.DayForm.{day_in}
use Rattle.pgs_json.specs.Form.{labels_of, props_of, add_node, add_edge, with_id, with_name, with_value, node_op, edge_op, ops_of, form}
use Rattle.pgs_json.specs.Line.{txn_of}
use Rattle.pgs_json.proofs.samples.lines_that_add.Goals as goal

pub returns-clause-nothing : goal.returns-clause-nothing
unfolding serde_json_on_literals chars is_utf8 day_in labels_of props_of add_node add_edge with_id with_name with_value node_op edge_op ops_of form txn_of
returns-clause-nothing c = refl

pub returns-clause-node : goal.returns-clause-node
unfolding serde_json_on_literals chars is_utf8 day_in labels_of props_of add_node add_edge with_id with_name with_value node_op edge_op ops_of form txn_of
returns-clause-node c = refl

pub returns-clause-loop_edge : goal.returns-clause-loop_edge
unfolding serde_json_on_literals chars is_utf8 day_in labels_of props_of add_node add_edge with_id with_name with_value node_op edge_op ops_of form txn_of
returns-clause-loop_edge c = refl

pub returns-clause-spaces : goal.returns-clause-spaces
unfolding serde_json_on_literals chars is_utf8 day_in labels_of props_of add_node add_edge with_id with_name with_value node_op edge_op ops_of form txn_of
returns-clause-spaces c = refl

pub returns-clause-labels : goal.returns-clause-labels
unfolding serde_json_on_literals chars is_utf8 day_in labels_of props_of add_node add_edge with_id with_name with_value node_op edge_op ops_of form txn_of
returns-clause-labels c = refl

pub returns-clause-greatest : goal.returns-clause-greatest
unfolding serde_json_on_literals chars is_utf8 day_in labels_of props_of add_node add_edge with_id with_name with_value node_op edge_op ops_of form txn_of
returns-clause-greatest c = refl
