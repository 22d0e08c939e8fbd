use Rattle.pgs_resolve.proofs.Computed as samples
use Rattle.pgs_resolve.proofs.samples.widths.Goals as goal

pub returns-clause-thirteen : goal.returns-clause-thirteen
returns-clause-thirteen c = samples.widths_thirteen

pub returns-clause-twelve : goal.returns-clause-twelve
returns-clause-twelve c = samples.widths_twelve

pub returns-clause-one_type : goal.returns-clause-one_type
returns-clause-one_type c = samples.widths_one_type

pub returns-clause-one_more : goal.returns-clause-one_more
returns-clause-one_more c = samples.widths_one_more
