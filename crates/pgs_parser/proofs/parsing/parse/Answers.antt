use Rattle.pgs_parser.proofs.ParseAnswers.{is_script, is_no_script, only_script, only_statement}
use Rattle.pgs_parser.proofs.parsing.parse.Goals as goal

pub returns-clause-script : goal.returns-clause-script
returns-clause-script c = is_script c.args.tokens.now c.script.result c.script.ensures

pub returns-clause-statement : goal.returns-clause-statement
returns-clause-statement c = is_no_script c.args.tokens.now c.script.result c.script.ensures

pub returns-clause-only_script : goal.returns-clause-only_script
returns-clause-only_script c = only_script c.args.tokens.now c.script.result c.script.ensures

pub returns-clause-only_statement : goal.returns-clause-only_statement
returns-clause-only_statement c = only_statement c.args.tokens.now c.script.result c.script.ensures
