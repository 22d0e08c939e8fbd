use Rattle.std.proofs.Common.{◌≡◌, true, take}
use Rattle.std.specs.List.{list_all}
use Rattle.pgs_base.specs.Graph.{is_node_entry}
use Rattle.pgs_base.proofs.row.nodes_facts.Given as goal

abbrev pub invariant-loop-node : goal.invariant-loop-node
invariant-loop-node l = list_all is_node_entry (take l.node-index l.nodes) ≡ true
