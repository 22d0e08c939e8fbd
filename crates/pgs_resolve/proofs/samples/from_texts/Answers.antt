use Rattle.pgs_resolve.proofs.Computed as samples
use Rattle.pgs_resolve.proofs.samples.from_texts.Goals as goal

pub returns-clause-bad_byte : goal.returns-clause-bad_byte
returns-clause-bad_byte c = samples.from_texts_bad_byte

pub returns-clause-empty : goal.returns-clause-empty
returns-clause-empty c = samples.from_texts_empty

pub returns-clause-staff : goal.returns-clause-staff
returns-clause-staff c = samples.from_texts_staff

pub returns-clause-moderator : goal.returns-clause-moderator
returns-clause-moderator c = samples.from_texts_moderator

pub returns-clause-mail : goal.returns-clause-mail
returns-clause-mail c = samples.from_texts_mail

pub returns-clause-no_mode : goal.returns-clause-no_mode
returns-clause-no_mode c = samples.from_texts_no_mode
