use Rattle.pgs_syntax.proofs.Connected.{connected_linked, linked_connected, all_linked}
use Rattle.pgs_syntax.proofs.laws.connected_patterns_are_linked.Goals as goal

pub returns-clause-groups : goal.returns-clause-groups
returns-clause-groups c = λ pattern speaks. (connected_linked pattern speaks, linked_connected pattern speaks)

pub returns-clause-valid : goal.returns-clause-valid
returns-clause-valid c = all_linked
