use Rattle.pgs_parser.proofs.Findings.{one_finding}
use Rattle.pgs_parser.proofs.laws.one_finding.Goals as goal

pub returns : goal.returns
returns c = one_finding
