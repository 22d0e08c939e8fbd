use Rattle.pgs_journal.proofs.Beside.{read_beside}
use Rattle.pgs_journal.proofs.laws.reading_beside_appends.Goals as goal

pub returns : goal.returns
returns c = λ answers state first last made given. read_beside answers state first last made given
