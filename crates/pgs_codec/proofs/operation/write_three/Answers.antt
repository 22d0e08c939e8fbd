use Rattle.std.proofs.lemmas.Result.{on_ok_weaker}
use Rattle.pgs_base.proofs.Edits.{failed_on_ok}
use Rattle.pgs_codec.proofs.Writing.{third_part, first_two, last_of_three, three_pass}
use Rattle.pgs_codec.proofs.operation.write_three.Goals as goal

pub write_two-requires : goal.write_two-requires
write_two-requires g c =
    first_two (g.A.Field.is_small c.args.first.now) (g.B.Field.is_small c.args.second.now) (g.C.Field.is_small c.args.third.now) c.requires

pub write-requires : goal.write-requires
write-requires g c =
    last_of_three (g.A.Field.is_small c.args.first.now) (g.B.Field.is_small c.args.second.now) (g.C.Field.is_small c.args.third.now) c.requires

pub returns-in_err-write_two-clause-bytes : goal.returns-in_err-write_two-clause-bytes
returns-in_err-write_two-clause-bytes g c = failed_on_ok c.from_residual.result c.from_residual.ensures.0 _

pub returns-in_err-write_two-clause-fit : goal.returns-in_err-write_two-clause-fit
returns-in_err-write_two-clause-fit g c = failed_on_ok c.from_residual.result c.from_residual.ensures.0 _

pub returns-clause-bytes : goal.returns-clause-bytes
returns-clause-bytes g c =
    on_ok_weaker c.write.result (λ written.
    third_part c.args.kind c.args.out.now.items (g.A.Field.field c.args.first.now) (g.B.Field.field c.args.second.now) (g.C.Field.field c.args.third.now)
    c.write_two.new.out.items c.write.new.out.items c.in_ok-write_two.ensures.bytes written) c.write.ensures.bytes

pub returns-clause-fit : goal.returns-clause-fit
returns-clause-fit g c =
    on_ok_weaker c.write.result
    (three_pass (g.A.Field.is_field c.args.first.now) (g.B.Field.is_field c.args.second.now) (g.C.Field.is_field c.args.third.now) c.in_ok-write_two.ensures.fit) c.write.ensures.fit
