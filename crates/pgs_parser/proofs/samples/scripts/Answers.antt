use Rattle.pgs_parser.proofs.Texts as texts
use Rattle.pgs_parser.proofs.samples.scripts.Goals as goal

pub returns-clause-least : goal.returns-clause-least
returns-clause-least c = texts.least_found

pub returns-clause-staff : goal.returns-clause-staff
returns-clause-staff c = texts.staff_found

pub returns-clause-acquaintance : goal.returns-clause-acquaintance
returns-clause-acquaintance c = texts.acquaintance_found

pub returns-clause-moderator : goal.returns-clause-moderator
returns-clause-moderator c = texts.moderator_found

pub returns-clause-mail : goal.returns-clause-mail
returns-clause-mail c = texts.mail_found

pub returns-clause-forms : goal.returns-clause-forms
returns-clause-forms c = texts.forms_found
