use Rattle.pgs_schema_changes.proofs.Steps.{asks_no_more, keeps_graphs}
use Rattle.pgs_schema_changes.proofs.laws.what_is_safe_keeps_graphs.Goals as goal

pub returns-clause-asks_no_more : goal.returns-clause-asks_no_more
returns-clause-asks_no_more c = asks_no_more

pub returns-clause-keeps_graphs : goal.returns-clause-keeps_graphs
returns-clause-keeps_graphs c = keeps_graphs
