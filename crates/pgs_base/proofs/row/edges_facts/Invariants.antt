use Rattle.std.proofs.Common.{◌≡◌, true, take}
use Rattle.std.specs.List.{list_all}
use Rattle.pgs_base.specs.Graph.{is_edge_entry}
use Rattle.pgs_base.proofs.row.edges_facts.Given as goal

abbrev pub invariant-loop-edge : goal.invariant-loop-edge
invariant-loop-edge l = list_all is_edge_entry (take l.edge-index l.edges) ≡ true
