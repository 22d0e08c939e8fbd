use Rattle.std.proofs.Common.{refl}
use Rattle.std.specs.Str.{chars, is_utf8}
use Rattle.serde_json.proofs.OnLiterals.{serde_json_on_literals}
use Rattle.pgs_base.specs.DayForm.{day_in}
use Rattle.pgs_json.specs.Form.{labels_of, props_of, add_node, add_edge, with_id, with_name, with_value, node_op, edge_op, ops_of, form}
use Rattle.pgs_json.specs.Line.{txn_of}
use Rattle.pgs_json.proofs.samples.lines_that_change.Goals as goal

pub returns-clause-remove : goal.returns-clause-remove
unfolding serde_json_on_literals chars is_utf8 day_in labels_of props_of add_node add_edge with_id with_name with_value node_op edge_op ops_of form txn_of
returns-clause-remove c = refl

pub returns-clause-detach : goal.returns-clause-detach
unfolding serde_json_on_literals chars is_utf8 day_in labels_of props_of add_node add_edge with_id with_name with_value node_op edge_op ops_of form txn_of
returns-clause-detach c = refl

pub returns-clause-remove_edge : goal.returns-clause-remove_edge
unfolding serde_json_on_literals chars is_utf8 day_in labels_of props_of add_node add_edge with_id with_name with_value node_op edge_op ops_of form txn_of
returns-clause-remove_edge c = refl

pub returns-clause-set : goal.returns-clause-set
unfolding serde_json_on_literals chars is_utf8 day_in labels_of props_of add_node add_edge with_id with_name with_value node_op edge_op ops_of form txn_of
returns-clause-set c = refl

pub returns-clause-label : goal.returns-clause-label
unfolding serde_json_on_literals chars is_utf8 day_in labels_of props_of add_node add_edge with_id with_name with_value node_op edge_op ops_of form txn_of
returns-clause-label c = refl

pub returns-clause-edges : goal.returns-clause-edges
unfolding serde_json_on_literals chars is_utf8 day_in labels_of props_of add_node add_edge with_id with_name with_value node_op edge_op ops_of form txn_of
returns-clause-edges c = refl

pub returns-clause-last_of_two : goal.returns-clause-last_of_two
unfolding serde_json_on_literals chars is_utf8 day_in labels_of props_of add_node add_edge with_id with_name with_value node_op edge_op ops_of form txn_of
returns-clause-last_of_two c = refl
