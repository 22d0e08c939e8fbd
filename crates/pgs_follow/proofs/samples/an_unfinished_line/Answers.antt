use Rattle.std.proofs.Common.{refl}
use Rattle.std.specs.Fmt.{digits}
use Rattle.std.specs.Str.{chars, is_utf8}
use Rattle.serde_json.proofs.OnLiterals.{serde_json_on_literals}
use Rattle.pgs_base_text.specs.Text.{quoted}
use Rattle.pgs_json.specs.Canonical.{text_of_txn}
use Rattle.pgs_json.specs.Commit.{commit_form, commit_of, read_commit_line}
use Rattle.pgs_json.specs.Form.{labels_of, props_of, add_node, add_edge, with_id, with_name, with_value, node_op, edge_op, ops_of}
use Rattle.pgs_follow.specs.Followed.{followed, rest_of}
use Rattle.pgs_follow.proofs.samples.an_unfinished_line.Goals as goal

pub returns-clause-followed : goal.returns-clause-followed
unfolding serde_json_on_literals chars is_utf8 digits quoted text_of_txn labels_of props_of add_node add_edge with_id with_name with_value node_op edge_op ops_of commit_form commit_of read_commit_line followed rest_of
returns-clause-followed c = refl

pub returns-clause-rest : goal.returns-clause-rest
unfolding serde_json_on_literals chars is_utf8 digits quoted text_of_txn labels_of props_of add_node add_edge with_id with_name with_value node_op edge_op ops_of commit_form commit_of read_commit_line followed rest_of
returns-clause-rest c = refl
