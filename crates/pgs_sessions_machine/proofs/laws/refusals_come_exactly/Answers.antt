use Rattle.pgs_sessions_machine.proofs.Refused.{already_open, too_many, no_session, stale}
use Rattle.pgs_sessions_machine.proofs.laws.refusals_come_exactly.Goals as goal

pub returns-clause-already_open : goal.returns-clause-already_open
returns-clause-already_open c = already_open

pub returns-clause-too_many : goal.returns-clause-too_many
returns-clause-too_many c = too_many

pub returns-clause-no_session : goal.returns-clause-no_session
returns-clause-no_session c = no_session

pub returns-clause-stale : goal.returns-clause-stale
returns-clause-stale c = stale
