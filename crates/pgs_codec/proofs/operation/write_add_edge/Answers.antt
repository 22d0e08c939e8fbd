use Rattle.std.proofs.Common.{refl}
use Rattle.std.proofs.lemmas.Bool.{and_parts}
use Rattle.std.proofs.lemmas.Result.{on_ok_weaker}
use Rattle.pgs_base.proofs.Edits.{failed_on_ok}
use Rattle.pgs_codec.specs.Encodable.{are_small_labels, are_small_props, is_edge_id, is_node_id, is_labels, is_props}
use Rattle.pgs_codec.specs.Payload.{edge_id_field, node_id_field, labels_field, props_field}
use Rattle.pgs_codec.proofs.Writing.{fifth_part, five_pass}
use Rattle.pgs_codec.proofs.operation.write_add_edge.Goals as goal

pub write_three-requires : goal.write_three-requires
write_three-requires c = refl

pub write-requires : goal.write-requires
write-requires c = (and_parts (are_small_labels c.args.labels.now) (are_small_props c.args.props.now) c.requires).0

pub write-requires-2 : goal.write-requires-2
write-requires-2 c = (and_parts (are_small_labels c.args.labels.now) (are_small_props c.args.props.now) c.requires).1

pub returns-in_err-write_three-clause-bytes : goal.returns-in_err-write_three-clause-bytes
returns-in_err-write_three-clause-bytes c = failed_on_ok c.from_residual.result c.from_residual.ensures.0 _

pub returns-in_err-write_three-clause-fit : goal.returns-in_err-write_three-clause-fit
returns-in_err-write_three-clause-fit c = failed_on_ok c.from_residual.result c.from_residual.ensures.0 _

pub returns-in_err-write-clause-bytes : goal.returns-in_err-write-clause-bytes
returns-in_err-write-clause-bytes c = failed_on_ok c.from_residual-in_err-write.result c.from_residual-in_err-write.ensures.0 _

pub returns-in_err-write-clause-fit : goal.returns-in_err-write-clause-fit
returns-in_err-write-clause-fit c = failed_on_ok c.from_residual-in_err-write.result c.from_residual-in_err-write.ensures.0 _

pub returns-clause-bytes : goal.returns-clause-bytes
returns-clause-bytes c =
    on_ok_weaker c.write-2.result (λ written.
    fifth_part 2 c.args.out.now.items (edge_id_field c.args.id.now) (node_id_field c.args.source.now) (node_id_field c.args.target.now) (labels_field c.args.labels.now) (props_field c.args.props.now)
    c.write_three.new.out.items c.write.new.out.items c.write-2.new.out.items c.in_ok-write_three.ensures.bytes c.in_ok-write.ensures.bytes written) c.write-2.ensures.bytes

pub returns-clause-fit : goal.returns-clause-fit
returns-clause-fit c =
    on_ok_weaker c.write-2.result
    (five_pass (is_edge_id c.args.id.now) (is_node_id c.args.source.now) (is_node_id c.args.target.now) (is_labels c.args.labels.now) (is_props c.args.props.now)
    c.in_ok-write_three.ensures.fit c.in_ok-write.ensures.fit) c.write-2.ensures.fit
