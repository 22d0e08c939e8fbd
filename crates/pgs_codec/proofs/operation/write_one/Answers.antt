use Rattle.std.proofs.Common.{[]}
use Rattle.std.proofs.lemmas.Result.{on_ok_weaker}
use Rattle.pgs_base.proofs.Edits.{failed_on_ok}
use Rattle.pgs_codec.proofs.Writing.{then_part}
use Rattle.pgs_codec.proofs.operation.write_one.Goals as goal

pub write-requires : goal.write-requires
write-requires g c = c.requires

pub returns-in_err-push-clause-bytes : goal.returns-in_err-push-clause-bytes
returns-in_err-push-clause-bytes g c = failed_on_ok c.from_residual.result c.from_residual.ensures.0 _

pub returns-in_err-push-clause-fit : goal.returns-in_err-push-clause-fit
returns-in_err-push-clause-fit g c = failed_on_ok c.from_residual.result c.from_residual.ensures.0 _

pub returns-clause-bytes : goal.returns-clause-bytes
returns-clause-bytes g c =
    on_ok_weaker c.write.result (λ written.
    then_part c.args.kind c.args.out.now.items [] (g.A.Field.field c.args.first.now) c.push.new.self.items c.write.new.out.items c.in_ok-push.ensures.items written) c.write.ensures.bytes

pub returns-clause-fit : goal.returns-clause-fit
returns-clause-fit g c = c.write.ensures.fit
