use Rattle.pgs_journal.proofs.Beside.{given_later, records_kept}
use Rattle.pgs_journal.proofs.laws.appends_keep_records.Goals as goal

pub returns-clause-later : goal.returns-clause-later
returns-clause-later c = λ answers first last given. given_later answers first last given

pub returns-clause-kept : goal.returns-clause-kept
returns-clause-kept c = λ first last next epoch end payloads steps holds small. records_kept first last next epoch end payloads steps holds small
