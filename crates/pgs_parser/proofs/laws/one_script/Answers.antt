use Rattle.pgs_parser.proofs.WholeScripts.{one_script}
use Rattle.pgs_parser.proofs.laws.one_script.Goals as goal

pub returns : goal.returns
returns c = one_script
