use Rattle.std.proofs.lemmas.Bool.{and_from, and_parts}
use Rattle.std.proofs.lemmas.Result.{on_ok_weaker}
use Rattle.pgs_base.proofs.Edits.{failed_on_ok}
use Rattle.pgs_codec.proofs.Writing.{then_part}
use Rattle.pgs_codec.proofs.operation.write_two.Goals as goal

pub write_one-requires : goal.write_one-requires
write_one-requires g c = (and_parts (g.A.Field.is_small c.args.first.now) (g.B.Field.is_small c.args.second.now) c.requires).0

pub write-requires : goal.write-requires
write-requires g c = (and_parts (g.A.Field.is_small c.args.first.now) (g.B.Field.is_small c.args.second.now) c.requires).1

pub returns-in_err-write_one-clause-bytes : goal.returns-in_err-write_one-clause-bytes
returns-in_err-write_one-clause-bytes g c = failed_on_ok c.from_residual.result c.from_residual.ensures.0 _

pub returns-in_err-write_one-clause-fit : goal.returns-in_err-write_one-clause-fit
returns-in_err-write_one-clause-fit g c = failed_on_ok c.from_residual.result c.from_residual.ensures.0 _

pub returns-clause-bytes : goal.returns-clause-bytes
returns-clause-bytes g c =
    on_ok_weaker c.write.result (λ written.
    then_part c.args.kind c.args.out.now.items (g.A.Field.field c.args.first.now) (g.B.Field.field c.args.second.now) c.write_one.new.out.items c.write.new.out.items
    c.in_ok-write_one.ensures.bytes written) c.write.ensures.bytes

pub returns-clause-fit : goal.returns-clause-fit
returns-clause-fit g c =
    on_ok_weaker c.write.result (and_from (g.A.Field.is_field c.args.first.now) (g.B.Field.is_field c.args.second.now) c.in_ok-write_one.ensures.fit) c.write.ensures.fit
