use Rattle.pgs_json_causes.proofs.LineLaw.{told_line}
use Rattle.pgs_json_causes.proofs.line.line_cause.Goals as goal

pub returns-clause-refused : goal.returns-clause-refused
returns-clause-refused c = told_line c.args.line.now _ c.in_ok-cause.ensures
