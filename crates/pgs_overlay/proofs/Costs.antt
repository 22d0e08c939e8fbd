-- What the making of an overlay costs at most.
use Rattle.std.proofs.Common.{◌≡◌, ℕ, ◌+◌, ◌*◌, ◌≤◌, true, List, Option, ap, sym, ◌∙◌, arith}
use Rattle.std.specs.List.{list_any}
use Rattle.std.proofs.Math.Nat.{mul-le-mul_right}
use Rattle.pgs_base.specs.declared.element.NodeId.{NodeId}
use Rattle.pgs_base.specs.declared.element.EdgeId.{EdgeId}
use Rattle.pgs_base.specs.declared.row.EdgeRow.{EdgeRow}
use Rattle.pgs_base.specs.Graph.{Graph}
use Rattle.pgs_graph.specs.declared.delta.Delta.{Delta}
use Rattle.pgs_tables.specs.Adjacency.{ends_here}
use Rattle.pgs_overlay.specs.Passed.{HasFew}
use Rattle.pgs_overlay.specs.Standing.{HasDegreesWithin}

-- by the logarithm of the longest list
pub rows_bound : (k nodes edges : ℕ) → (8 * k + 17) * edges + nodes ≤ (8 * k + 17) * (nodes + edges)
rows_bound k nodes edges =
    let whole : (8 * k + 17) * (nodes + edges) ≡ (8 * k + 17) * nodes + (8 * k + 17) * edges = grind arith in
    let one : 1 * nodes ≡ nodes = omega arith in
    let for_nodes : 1 * nodes ≤ (8 * k + 17) * nodes = mul-le-mul_right nodes (omega arith) in
    omega (arith, whole, one, for_nodes)

-- and so by its length
pub cost_bound : (most nodes edges : ℕ) → (8 * most + 17) * edges + nodes ≤ 16 * (nodes + edges + 1) * (most + 2)
cost_bound most nodes edges =
    let whole : 16 * (nodes + edges + 1) * (most + 2) ≡ (16 * most + 32) * nodes + (16 * most + 32) * edges + (16 * most + 32) = grind arith in
    let one : 1 * nodes ≡ nodes = omega arith in
    let for_edges : (8 * most + 17) * edges ≤ (16 * most + 32) * edges = mul-le-mul_right edges (omega arith) in
    let for_nodes : 1 * nodes ≤ (16 * most + 32) * nodes = mul-le-mul_right nodes (omega arith) in
    omega (arith, whole, one, for_edges, for_nodes)

-- a node that has few edges has few on each side
pub few_touched : (g : Graph) (delta : Delta) (most : ℕ) → HasDegreesWithin g delta most → (edges : List (EdgeId × Option EdgeRow)) → edges ≡ delta.edges
    → (id : NodeId) → list_any (ends_here g id) edges ≡ true → HasFew g most id
few_touched g delta most within edges is id here =
    let le = within id (ap (list_any (ends_here g id)) (sym is) ∙ here) in
    record { outgoing = omega (arith, le); incoming = omega (arith, le) }
