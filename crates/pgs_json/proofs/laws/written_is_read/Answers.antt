use Rattle.pgs_json.proofs.WrittenRead.{written_read, written_line_read}
use Rattle.pgs_json.proofs.laws.written_is_read.Goals as goal

pub returns-clause-names : goal.returns-clause-names
returns-clause-names c = written_read

pub returns-clause-line : goal.returns-clause-line
returns-clause-line c = written_line_read
