-- A node has no more edges than a graph has elements.
use Rattle.std.proofs.Common.{◌≤◌, Bool, true, false, cond, List, [], ◌∷◌, length, filter, arith}
use Rattle.std.specs.Map.{keys_of}
use Rattle.pgs_base.specs.declared.element.NodeId.{NodeId}
use Rattle.pgs_base.specs.declared.element.EdgeId.{EdgeId}
use Rattle.pgs_base.specs.declared.row.EdgeRow.{EdgeRow}
use Rattle.pgs_base.specs.Graph.{Graph, element_count}
use Rattle.pgs_graph.specs.declared.scan.End.{End}
use Rattle.pgs_graph.specs.declared.scan.End.TheVariants.{Source, Target}
use Rattle.pgs_graph.specs.Reads.{ends_at, edges_with, out_edges_of, in_edges_of}

kept_few : (end : End) (id : NodeId) (edges : List (EdgeId × EdgeRow)) → length (edges_with end id edges) ≤ length edges
kept_few end id [] = omega arith
kept_few end id (edge ∷ edges) = by (ends_at end id edge) (kept_few end id edges)
  where
    by : (b : Bool) → length (edges_with end id edges) ≤ length edges → length (keys_of (cond b (edge ∷ filter (ends_at end id) edges) (filter (ends_at end id) edges))) ≤ length (edge ∷ edges)
    by true rest = omega arith
    by false rest = omega arith

pub few_along : (g : Graph) (id : NodeId) (forward : Bool) → length (cond forward (out_edges_of g id) (in_edges_of g id)) ≤ element_count g
few_along g id true = let kept = kept_few Source id g.edges in omega arith
few_along g id false = let kept = kept_few Target id g.edges in omega arith
