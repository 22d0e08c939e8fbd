use Rattle.pgs_resolve.proofs.Computed as samples
use Rattle.pgs_resolve.proofs.samples.keys.Goals as goal

pub returns-clause-steps_resolved : goal.returns-clause-steps_resolved
returns-clause-steps_resolved c = samples.steps_resolved

pub returns-clause-moderator_resolved : goal.returns-clause-moderator_resolved
returns-clause-moderator_resolved c = samples.moderator_resolved

pub returns-clause-edge_first : goal.returns-clause-edge_first
returns-clause-edge_first c = samples.edge_first

pub returns-clause-mail_resolved : goal.returns-clause-mail_resolved
returns-clause-mail_resolved c = samples.mail_resolved

pub returns-clause-mail_valid : goal.returns-clause-mail_valid
returns-clause-mail_valid c = samples.mail_valid
