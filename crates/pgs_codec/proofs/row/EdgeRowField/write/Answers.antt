use Rattle.std.proofs.Common.{refl}
use Rattle.std.proofs.lemmas.Bool.{and_parts}
use Rattle.std.proofs.lemmas.Result.{on_ok_weaker}
use Rattle.pgs_base.proofs.Edits.{failed_on_ok}
use Rattle.pgs_codec.specs.Encodable.{are_small_labels, are_small_props, is_node_id, is_labels, is_props}
use Rattle.pgs_codec.specs.Payload.{node_id_field, labels_field, props_field}
use Rattle.pgs_codec.proofs.Writing.{four_parts, four_pass}
use Rattle.pgs_codec.proofs.row.EdgeRowField.write.Goals as goal

pub write-requires : goal.write-requires
write-requires c = refl

pub write-requires-2 : goal.write-requires-2
write-requires-2 c = refl

pub write-requires-3 : goal.write-requires-3
write-requires-3 c = (and_parts (are_small_labels c.args.self.now.labels) (are_small_props c.args.self.now.props) c.requires).0

pub write-requires-4 : goal.write-requires-4
write-requires-4 c = (and_parts (are_small_labels c.args.self.now.labels) (are_small_props c.args.self.now.props) c.requires).1

pub returns-in_err-write-clause-bytes : goal.returns-in_err-write-clause-bytes
returns-in_err-write-clause-bytes c = failed_on_ok c.from_residual.result c.from_residual.ensures.0 _

pub returns-in_err-write-clause-fit : goal.returns-in_err-write-clause-fit
returns-in_err-write-clause-fit c = failed_on_ok c.from_residual.result c.from_residual.ensures.0 _

pub returns-in_err-write-2-clause-bytes : goal.returns-in_err-write-2-clause-bytes
returns-in_err-write-2-clause-bytes c = failed_on_ok c.from_residual-in_err-write-2.result c.from_residual-in_err-write-2.ensures.0 _

pub returns-in_err-write-2-clause-fit : goal.returns-in_err-write-2-clause-fit
returns-in_err-write-2-clause-fit c = failed_on_ok c.from_residual-in_err-write-2.result c.from_residual-in_err-write-2.ensures.0 _

pub returns-in_err-write-3-clause-bytes : goal.returns-in_err-write-3-clause-bytes
returns-in_err-write-3-clause-bytes c = failed_on_ok c.from_residual-in_err-write-3.result c.from_residual-in_err-write-3.ensures.0 _

pub returns-in_err-write-3-clause-fit : goal.returns-in_err-write-3-clause-fit
returns-in_err-write-3-clause-fit c = failed_on_ok c.from_residual-in_err-write-3.result c.from_residual-in_err-write-3.ensures.0 _

pub returns-clause-bytes : goal.returns-clause-bytes
returns-clause-bytes c =
    on_ok_weaker c.write-4.result (λ written.
    four_parts c.args.out.now.items (node_id_field c.args.self.now.source) (node_id_field c.args.self.now.target) (labels_field c.args.self.now.labels) (props_field c.args.self.now.props)
    c.write.new.out.items c.write-2.new.out.items c.write-3.new.out.items c.write-4.new.out.items
    c.in_ok-write.ensures.bytes c.in_ok-write-2.ensures.bytes c.in_ok-write-3.ensures.bytes written) c.write-4.ensures.bytes

pub returns-clause-fit : goal.returns-clause-fit
returns-clause-fit c =
    on_ok_weaker c.write-4.result
    (four_pass (is_node_id c.args.self.now.source) (is_node_id c.args.self.now.target) (is_labels c.args.self.now.labels) (is_props c.args.self.now.props)
    c.in_ok-write.ensures.fit c.in_ok-write-2.ensures.fit c.in_ok-write-3.ensures.fit) c.write-4.ensures.fit
