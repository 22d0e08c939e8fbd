use Rattle.std.proofs.Common.{◌≡◌, take}
use Rattle.pgs_match.specs.Frontier.{at_nodes}
use Rattle.pgs_match.proofs.frontier.nodes_bound.Given as goal

abbrev pub invariant-loop-id : goal.invariant-loop-id
invariant-loop-id l = l.bounds.items ≡ at_nodes (take l.id-index l.ids)
