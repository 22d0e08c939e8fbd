use Rattle.std.proofs.Common.{refl}
use Rattle.std.specs.Str.{chars, is_utf8}
use Rattle.serde_json.proofs.OnLiterals.{serde_json_on_literals}
use Rattle.pgs_json.specs.Form.{add_node, add_edge, with_id, with_name, with_value, node_op, edge_op, ops_of}
use Rattle.pgs_json.specs.Commit.{commit_form, commit_of}
use Rattle.pgs_json.proofs.samples.lines_of_a_feed.Goals as goal

pub returns-clause-first : goal.returns-clause-first
unfolding serde_json_on_literals chars is_utf8 add_node add_edge with_id with_name with_value node_op edge_op ops_of commit_form commit_of
returns-clause-first c = refl

pub returns-clause-members_in_any_order : goal.returns-clause-members_in_any_order
unfolding serde_json_on_literals chars is_utf8 add_node add_edge with_id with_name with_value node_op edge_op ops_of commit_form commit_of
returns-clause-members_in_any_order c = refl

pub returns-clause-no_number : goal.returns-clause-no_number
unfolding serde_json_on_literals chars is_utf8 add_node add_edge with_id with_name with_value node_op edge_op ops_of commit_form commit_of
returns-clause-no_number c = refl

pub returns-clause-zero : goal.returns-clause-zero
unfolding serde_json_on_literals chars is_utf8 add_node add_edge with_id with_name with_value node_op edge_op ops_of commit_form commit_of
returns-clause-zero c = refl

pub returns-clause-other_member : goal.returns-clause-other_member
unfolding serde_json_on_literals chars is_utf8 add_node add_edge with_id with_name with_value node_op edge_op ops_of commit_form commit_of
returns-clause-other_member c = refl
