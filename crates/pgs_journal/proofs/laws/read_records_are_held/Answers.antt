use Rattle.pgs_journal.proofs.Held.{read-holds}
use Rattle.pgs_journal.proofs.laws.read_records_are_held.Goals as goal

pub returns-clause-held : goal.returns-clause-held
returns-clause-held c = λ epoch end next payloads image small is. (read-holds epoch end next payloads image small is).0

pub returns-clause-fit : goal.returns-clause-fit
returns-clause-fit c = λ epoch end next payloads image small is. (read-holds epoch end next payloads image small is).1
