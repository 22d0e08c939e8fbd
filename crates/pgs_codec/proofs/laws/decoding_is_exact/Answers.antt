use Rattle.pgs_codec.proofs.Commands.{decoded_takes, payload_decoded}
use Rattle.pgs_codec.proofs.laws.decoding_is_exact.Goals as goal

pub returns : goal.returns
returns c = λ bytes command fits. (decoded_takes bytes command fits, payload_decoded bytes command)
