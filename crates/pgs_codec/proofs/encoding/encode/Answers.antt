use Rattle.std.proofs.Common.{refl}
use Rattle.pgs_codec.proofs.Commands.{payload_decoded}
use Rattle.pgs_codec.proofs.encoding.encode.Goals as goal

pub returns-clause-decoded : goal.returns-clause-decoded
returns-clause-decoded c =
    payload_decoded c.from_vec.result c.args.command.now (record { encodable = c.in_ok-write_command.ensures.fit; spelled = rw (c.from_vec.ensures, c.in_ok-write_command.ensures.bytes, c.in_ok-out.ensures.items) refl })
