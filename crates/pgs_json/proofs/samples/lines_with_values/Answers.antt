use Rattle.std.proofs.Common.{refl}
use Rattle.std.specs.Str.{chars, is_utf8}
use Rattle.serde_json.proofs.OnLiterals.{serde_json_on_literals}
use Rattle.pgs_base.specs.DayForm.{day_in}
use Rattle.pgs_json.specs.Form.{labels_of, props_of, add_node, add_edge, with_id, with_name, with_value, node_op, edge_op, ops_of, form}
use Rattle.pgs_json.specs.Line.{txn_of}
use Rattle.pgs_json.proofs.samples.lines_with_values.Goals as goal

pub returns-clause-least : goal.returns-clause-least
unfolding serde_json_on_literals chars is_utf8 day_in labels_of props_of add_node add_edge with_id with_name with_value node_op edge_op ops_of form txn_of
returns-clause-least c = refl

pub returns-clause-greatest : goal.returns-clause-greatest
unfolding serde_json_on_literals chars is_utf8 day_in labels_of props_of add_node add_edge with_id with_name with_value node_op edge_op ops_of form txn_of
returns-clause-greatest c = refl

pub returns-clause-beyond : goal.returns-clause-beyond
unfolding serde_json_on_literals chars is_utf8 day_in labels_of props_of add_node add_edge with_id with_name with_value node_op edge_op ops_of form txn_of
returns-clause-beyond c = refl

pub returns-clause-point : goal.returns-clause-point
unfolding serde_json_on_literals chars is_utf8 day_in labels_of props_of add_node add_edge with_id with_name with_value node_op edge_op ops_of form txn_of
returns-clause-point c = refl

pub returns-clause-leap_day : goal.returns-clause-leap_day
unfolding serde_json_on_literals chars is_utf8 day_in labels_of props_of add_node add_edge with_id with_name with_value node_op edge_op ops_of form txn_of
returns-clause-leap_day c = refl

pub returns-clause-no_leap_day : goal.returns-clause-no_leap_day
unfolding serde_json_on_literals chars is_utf8 day_in labels_of props_of add_node add_edge with_id with_name with_value node_op edge_op ops_of form txn_of
returns-clause-no_leap_day c = refl

pub returns-clause-short_year : goal.returns-clause-short_year
unfolding serde_json_on_literals chars is_utf8 day_in labels_of props_of add_node add_edge with_id with_name with_value node_op edge_op ops_of form txn_of
returns-clause-short_year c = refl

pub returns-clause-null : goal.returns-clause-null
unfolding serde_json_on_literals chars is_utf8 day_in labels_of props_of add_node add_edge with_id with_name with_value node_op edge_op ops_of form txn_of
returns-clause-null c = refl
