use Rattle.pgs_resolve.proofs.Computed as samples
use Rattle.pgs_resolve.proofs.samples.refusals.Goals as goal

pub returns-clause-no_graph_type : goal.returns-clause-no_graph_type
returns-clause-no_graph_type c = samples.no_graph_type

pub returns-clause-duplicate : goal.returns-clause-duplicate
returns-clause-duplicate c = samples.duplicate

pub returns-clause-unknown : goal.returns-clause-unknown
returns-clause-unknown c = samples.unknown

pub returns-clause-kind : goal.returns-clause-kind
returns-clause-kind c = samples.kind

pub returns-clause-types_cycle : goal.returns-clause-types_cycle
returns-clause-types_cycle c = samples.types_cycle

pub returns-clause-imports_cycle : goal.returns-clause-imports_cycle
returns-clause-imports_cycle c = samples.imports_cycle

pub returns-clause-bad_key : goal.returns-clause-bad_key
returns-clause-bad_key c = samples.bad_key
