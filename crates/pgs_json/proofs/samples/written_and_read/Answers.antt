use Rattle.std.proofs.Common.{refl}
use Rattle.std.specs.Str.{chars, is_utf8}
use Rattle.serde_json.proofs.OnLiterals.{serde_json_on_literals}
use Rattle.pgs_base.specs.DayForm.{day_in}
use Rattle.pgs_json.specs.Form.{labels_of, props_of, add_node, add_edge, with_id, with_name, with_value, node_op, edge_op, ops_of, form}
use Rattle.pgs_json.specs.Line.{txn_of}
use Rattle.std.specs.Fmt.{digits}
use Rattle.pgs_json.specs.Canonical.{text_of_txn}
use Rattle.pgs_base_text.specs.Text.{quoted}
use Rattle.pgs_json.proofs.samples.written_and_read.Goals as goal

pub returns-clause-nodes : goal.returns-clause-nodes
unfolding serde_json_on_literals chars is_utf8 day_in labels_of props_of add_node add_edge with_id with_name with_value node_op edge_op ops_of form txn_of digits quoted text_of_txn
returns-clause-nodes c = refl

pub returns-clause-edges : goal.returns-clause-edges
unfolding serde_json_on_literals chars is_utf8 day_in labels_of props_of add_node add_edge with_id with_name with_value node_op edge_op ops_of form txn_of digits quoted text_of_txn
returns-clause-edges c = refl
