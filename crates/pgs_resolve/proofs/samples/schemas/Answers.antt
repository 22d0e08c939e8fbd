use Rattle.pgs_resolve.proofs.Computed as samples
use Rattle.pgs_resolve.proofs.samples.schemas.Goals as goal

pub returns-clause-staff_resolved : goal.returns-clause-staff_resolved
returns-clause-staff_resolved c = samples.staff_resolved

pub returns-clause-acquaintance_resolved : goal.returns-clause-acquaintance_resolved
returns-clause-acquaintance_resolved c = samples.acquaintance_resolved

pub returns-clause-acquaintance_valid : goal.returns-clause-acquaintance_valid
returns-clause-acquaintance_valid c = samples.acquaintance_valid

pub returns-clause-listed_before : goal.returns-clause-listed_before
returns-clause-listed_before c = samples.listed_before
