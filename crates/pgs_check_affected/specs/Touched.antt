-- What a change touches beside its own elements, which nodes are near that, and how many edges these have.
use Rattle.std.specs.Prelude.{◌≡◌, ◌≤◌, ℕ, zero, suc, Bool, true, ◌&&◌, ◌||◌, not, List, ◌++◌, filter}
use Rattle.std.specs.List.{list_any}
use Rattle.pgs_base.specs.declared.element.NodeId.{NodeId}
use Rattle.pgs_base.specs.declared.element.EdgeId.{EdgeId}
use Rattle.pgs_base.specs.declared.element.Elem.{Elem}
use Rattle.pgs_base.specs.declared.row.EdgeRow.{EdgeRow}
use Rattle.pgs_base.specs.Graph.{Graph, is_end}
use Rattle.pgs_graph.specs.Reads.{degree_of}
use Rattle.pgs_syntax.specs.Matches.{elements}
use Rattle.pgs_match.specs.Near.{is_at_element, IsSparse}
use Rattle.pgs_check_affected.specs.Local.{is_one_of, has_touched_end}

-- whether an element is an edge of the graph at a node of the list, and isn't of the list itself
abbrev pub is_beside : Graph → List Elem → Elem → Bool
is_beside g elems elem = has_touched_end (is_one_of elems) g elem && not (is_one_of elems elem)

-- The elements that a change touches, each once: its own, and the edges of the old graph at its nodes. An edge that isn't its own is in
-- both graphs, with one row, so that the new graph has no others there.
abbrev pub touched : Graph → List Elem → List Elem
touched g elems = elems ++ filter (is_beside g elems) (elements g true)

-- Whether a node is within so many edges of an element, over the edges of two graphs together: within 0 are the node itself, or the ends
-- that the edge has in either; within one more are these and each end of an edge of either that has an end within.
abbrev pub is_near : Graph → Graph → ℕ → Elem → NodeId → Bool
is_near g h zero elem id = is_at_element g elem id || is_at_element h elem id
is_near g h (suc edges) elem id =
    is_near g h edges elem id
    || list_any (λ (edge : EdgeId × EdgeRow).
    is_end id edge.1 && (is_near g h edges elem edge.1.source || is_near g h edges elem edge.1.target)) (g.edges ++ h.edges)

-- no node within so many edges of one of these elements has a greater in-degree plus out-degree in either graph
abbrev pub AreSparse : Graph → Graph → ℕ → List Elem → ℕ → Type 0
AreSparse g h edges elems most =
    (from : Elem) → is_one_of elems from ≡ true → (id : NodeId) → is_near g h edges from id ≡ true →
    (degree_of g id ≤ most) × (degree_of h id ≤ most)

-- no node within so many edges of an element, in either graph, has a greater in-degree plus out-degree in that graph
abbrev pub IsSparseInBoth : Graph → Graph → ℕ → Elem → ℕ → Type 0
IsSparseInBoth g h edges elem most = IsSparse g edges elem most × IsSparse h edges elem most

-- nor of each of these
abbrev pub AreSparseInBoth : Graph → Graph → ℕ → List Elem → ℕ → Type 0
AreSparseInBoth g h edges elems most = (elem : Elem) → is_one_of elems elem ≡ true → IsSparseInBoth g h edges elem most
