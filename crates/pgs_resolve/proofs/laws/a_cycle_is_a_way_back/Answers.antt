use Rattle.pgs_resolve.proofs.Cycles.{type_from, type_to, graph_from, graph_to}
use Rattle.pgs_resolve.proofs.laws.a_cycle_is_a_way_back.Goals as goal

pub returns-clause-types : goal.returns-clause-types
returns-clause-types c = λ script name. (type_from script name, type_to script name)

pub returns-clause-graphs : goal.returns-clause-graphs
returns-clause-graphs c = λ script name. (graph_from script name, graph_to script name)
