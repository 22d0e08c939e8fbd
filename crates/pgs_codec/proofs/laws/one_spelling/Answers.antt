use Rattle.pgs_codec.proofs.Commands.{one_command}
use Rattle.pgs_codec.proofs.laws.one_spelling.Goals as goal

pub returns : goal.returns
returns c = one_command
