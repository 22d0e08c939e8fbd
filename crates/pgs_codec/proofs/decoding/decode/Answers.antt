use Rattle.std.proofs.Common.{arith}
use Rattle.pgs_codec.proofs.Commands.{decoded_takes, not_decoded}
use Rattle.pgs_codec.proofs.Sizes.{encodable_sized}
use Rattle.pgs_codec.proofs.decoding.decode.Goals as goal

pub returns-in-Ok-clause-found : goal.returns-in-Ok-clause-found
returns-in-Ok-clause-found c = decoded_takes c.args.payload.now c.in-Ok.command (λ i. omega (arith, c.type_inv.payload i)) c.in-Ok.ensures

pub returns-in-Err-Unfit-clause-none : goal.returns-in-Err-Unfit-clause-none
returns-in-Err-Unfit-clause-none c = λ command p. not_decoded c.args.payload.now command (rw c.in-Err-Unfit.field-0-is at c.in-Err-Unfit.ensures) p

pub returns-in-Ok-clause-sized : goal.returns-in-Ok-clause-sized
returns-in-Ok-clause-sized c = encodable_sized c.in-Ok.command (returns-in-Ok-clause-found c).encodable
