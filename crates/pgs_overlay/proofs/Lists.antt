-- The lists of edges of a graph ascend, and none is longer than the graph.
use Rattle.std.proofs.Common.{◌≡◌, suc, ◌≤◌, Bool, true, false, cond, List, [], ◌∷◌, length, refl, ap, arith}
use Rattle.std.specs.List.{filter}
use Rattle.std.specs.List.Sorted.{IsStrictlySortedBy}
use Rattle.std.specs.Map.{keys_of}
use Rattle.pgs_base.specs.declared.element.NodeId.{NodeId}
use Rattle.pgs_base.specs.Graph.{Graph, edge_cmp, is_graph, element_count}
use Rattle.pgs_graph.specs.Reads.{ends_at}
use Rattle.pgs_graph.proofs.Deltas.{ascending_edges}
use Rattle.pgs_graph.proofs.EdgeLists.{ascending-edges_with}
use Rattle.pgs_overlay.specs.declared.side.Side.{Side}
use Rattle.pgs_overlay.specs.Sides.{end_at, edges_at}

pub ascending_list : (side : Side) (id : NodeId) (g : Graph) → is_graph g ≡ true → IsStrictlySortedBy edge_cmp (edges_at side id g.edges)
ascending_list side id g graph = ascending-edges_with (end_at side) id g.edges (ascending_edges g graph)

filtered : {X : Type 0} (test : X → Bool) (xs : List X) → length (filter test xs) ≤ length xs
filtered test [] = omega arith
filtered test (x ∷ xs) = by (test x) (filtered test xs)
  where
    by : (b : Bool) → length (filter test xs) ≤ length xs → length (cond b (x ∷ filter test xs) (filter test xs)) ≤ length (x ∷ xs)
    by true le = omega arith
    by false le = omega arith

pub keys_counted : {K V : Type 0} (es : List (K × V)) → length (keys_of es) ≡ length es
keys_counted [] = refl
keys_counted (e ∷ es) = ap suc (keys_counted es)

pub list_within : (side : Side) (id : NodeId) (g : Graph) → length (edges_at side id g.edges) ≤ element_count g
list_within side id g =
    let kept = filter (ends_at (end_at side) id) g.edges in
    omega (arith, keys_counted kept, filtered (ends_at (end_at side) id) g.edges)
