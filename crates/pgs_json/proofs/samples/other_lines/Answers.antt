use Rattle.std.proofs.Common.{refl}
use Rattle.std.specs.Str.{chars, is_utf8}
use Rattle.serde_json.proofs.OnLiterals.{serde_json_on_literals}
use Rattle.pgs_base.specs.DayForm.{day_in}
use Rattle.pgs_json.specs.Form.{labels_of, props_of, add_node, add_edge, with_id, with_name, with_value, node_op, edge_op, ops_of, form}
use Rattle.pgs_json.specs.Line.{txn_of}
use Rattle.pgs_json.proofs.samples.other_lines.Goals as goal

pub returns-clause-empty : goal.returns-clause-empty
unfolding serde_json_on_literals chars is_utf8 day_in labels_of props_of add_node add_edge with_id with_name with_value node_op edge_op ops_of form txn_of
returns-clause-empty c = refl

pub returns-clause-no_json : goal.returns-clause-no_json
unfolding serde_json_on_literals chars is_utf8 day_in labels_of props_of add_node add_edge with_id with_name with_value node_op edge_op ops_of form txn_of
returns-clause-no_json c = refl

pub returns-clause-no_object : goal.returns-clause-no_object
unfolding serde_json_on_literals chars is_utf8 day_in labels_of props_of add_node add_edge with_id with_name with_value node_op edge_op ops_of form txn_of
returns-clause-no_object c = refl

pub returns-clause-no_list : goal.returns-clause-no_list
unfolding serde_json_on_literals chars is_utf8 day_in labels_of props_of add_node add_edge with_id with_name with_value node_op edge_op ops_of form txn_of
returns-clause-no_list c = refl

pub returns-clause-no_ops : goal.returns-clause-no_ops
unfolding serde_json_on_literals chars is_utf8 day_in labels_of props_of add_node add_edge with_id with_name with_value node_op edge_op ops_of form txn_of
returns-clause-no_ops c = refl

pub returns-clause-more : goal.returns-clause-more
unfolding serde_json_on_literals chars is_utf8 day_in labels_of props_of add_node add_edge with_id with_name with_value node_op edge_op ops_of form txn_of
returns-clause-more c = refl

pub returns-clause-no_kind : goal.returns-clause-no_kind
unfolding serde_json_on_literals chars is_utf8 day_in labels_of props_of add_node add_edge with_id with_name with_value node_op edge_op ops_of form txn_of
returns-clause-no_kind c = refl

pub returns-clause-two_kinds : goal.returns-clause-two_kinds
unfolding serde_json_on_literals chars is_utf8 day_in labels_of props_of add_node add_edge with_id with_name with_value node_op edge_op ops_of form txn_of
returns-clause-two_kinds c = refl

pub returns-clause-unknown : goal.returns-clause-unknown
unfolding serde_json_on_literals chars is_utf8 day_in labels_of props_of add_node add_edge with_id with_name with_value node_op edge_op ops_of form txn_of
returns-clause-unknown c = refl

pub returns-clause-no_end : goal.returns-clause-no_end
unfolding serde_json_on_literals chars is_utf8 day_in labels_of props_of add_node add_edge with_id with_name with_value node_op edge_op ops_of form txn_of
returns-clause-no_end c = refl

pub returns-clause-no_name : goal.returns-clause-no_name
unfolding serde_json_on_literals chars is_utf8 day_in labels_of props_of add_node add_edge with_id with_name with_value node_op edge_op ops_of form txn_of
returns-clause-no_name c = refl

pub returns-clause-minus : goal.returns-clause-minus
unfolding serde_json_on_literals chars is_utf8 day_in labels_of props_of add_node add_edge with_id with_name with_value node_op edge_op ops_of form txn_of
returns-clause-minus c = refl

pub returns-clause-too_great : goal.returns-clause-too_great
unfolding serde_json_on_literals chars is_utf8 day_in labels_of props_of add_node add_edge with_id with_name with_value node_op edge_op ops_of form txn_of
returns-clause-too_great c = refl

pub returns-clause-no_text : goal.returns-clause-no_text
unfolding serde_json_on_literals chars is_utf8 day_in labels_of props_of add_node add_edge with_id with_name with_value node_op edge_op ops_of form txn_of
returns-clause-no_text c = refl
