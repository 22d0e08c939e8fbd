use Rattle.std.proofs.Common.{◌≡◌, true, take}
use Rattle.std.specs.List.{list_all}
use Rattle.pgs_graph.specs.Operations.{is_well_formed_op}
use Rattle.pgs_graph.proofs.operation.Txn.facts.Given as goal

abbrev pub invariant-loop-op : goal.invariant-loop-op
invariant-loop-op l = list_all is_well_formed_op (take l.op-index l.op-items) ≡ true
