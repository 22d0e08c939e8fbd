use Rattle.std.proofs.Common.{length, map}
use Rattle.pgs_resolve_declared.specs.Declarations.{nodes_of, edges_of}
use Rattle.pgs_resolve_declared.specs.Order.{node_entry, edge_entry}
use Rattle.pgs_resolve.proofs.Listing.{next_at}
use Rattle.pgs_resolve.proofs.laws.each_next_type_is_the_least_that_can_follow.Goals as goal

pub returns-clause-nodes : goal.returns-clause-nodes
returns-clause-nodes c = λ script before after name. next_at (map (node_entry script) (nodes_of script)) (length (nodes_of script)) before name after

pub returns-clause-edges : goal.returns-clause-edges
returns-clause-edges c = λ script before after name. next_at (map (edge_entry script) (edges_of script)) (length (edges_of script)) before name after
