use Rattle.pgs_parser.proofs.WholeScripts.{scripts, no_scripts}
use Rattle.pgs_parser.proofs.laws.computed_scripts.Goals as goal

pub returns-clause-scripts : goal.returns-clause-scripts
returns-clause-scripts c = scripts

pub returns-clause-none : goal.returns-clause-none
returns-clause-none c = no_scripts
