use Rattle.pgs_parser.proofs.Findings.{findings}
use Rattle.pgs_parser.proofs.laws.computed_findings.Goals as goal

pub returns : goal.returns
returns c = findings
