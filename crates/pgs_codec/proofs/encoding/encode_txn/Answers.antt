use Rattle.std.proofs.Common.{refl}
use Rattle.pgs_codec.specs.declared.command.Command.TheVariants as commands
use Rattle.pgs_codec.proofs.Commands.{payload_decoded}
use Rattle.pgs_codec.proofs.encoding.encode_txn.Goals as goal

pub returns-clause-decoded : goal.returns-clause-decoded
returns-clause-decoded c =
    payload_decoded c.from_vec.result (commands.Txn c.args.txn.now) (record { encodable = c.in_ok-write_txn.ensures.fit; spelled = rw (c.from_vec.ensures, c.in_ok-write_txn.ensures.bytes, c.in_ok-out.ensures.items) refl })
