use Rattle.pgs_json.proofs.Commits.{written_commit, written_commit_line}
use Rattle.pgs_json.proofs.laws.written_commit_is_read.Goals as goal

pub returns-clause-names : goal.returns-clause-names
returns-clause-names c = written_commit

pub returns-clause-line : goal.returns-clause-line
returns-clause-line c = written_commit_line
