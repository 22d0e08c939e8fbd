-- Small graphs and patterns on which the definitions of this crate are checked.
use Rattle.std.specs.Prelude.{ℕ, true, false, List, [], ◌∷◌, map}
use Rattle.pgs_base.specs.declared.element.NodeId.{NodeId}
use Rattle.pgs_base.specs.declared.element.EdgeId.{EdgeId}
use Rattle.pgs_base.specs.declared.element.Elem.{Elem}
use Rattle.pgs_base.specs.declared.element.Elem.TheVariants.{Node, Edge}
use Rattle.pgs_base.specs.declared.row.NodeRow.{NodeRow}
use Rattle.pgs_base.specs.declared.row.EdgeRow.{EdgeRow}
use Rattle.pgs_base.specs.Graph.{Graph}
use Rattle.pgs_syntax.specs.declared.pattern.Atom.TheVariants.{Ends}
use Rattle.pgs_syntax.specs.declared.pattern.Pattern.{Pattern}

abbrev pub node : ℕ → Elem
node n = Node (record { 0 = n })

abbrev pub edge : ℕ → Elem
edge n = Edge (record { 0 = n })

abbrev node_row : ℕ → NodeId × NodeRow
node_row n = (record { 0 = n }, record { labels = []; props = [] })

abbrev edge_row : ℕ → ℕ → ℕ → EdgeId × EdgeRow
edge_row n source target =
    (record { 0 = n }, record { source = record { 0 = source }; target = record { 0 = target }; labels = []; props = [] })

-- four nodes, edge 1 from the first to the second and edge 2 from the second to the third, which is then moved to the fourth
abbrev pub before : Graph
before = record { nodes = map node_row (1 ∷ 2 ∷ 3 ∷ 4 ∷ []); edges = edge_row 1 1 2 ∷ edge_row 2 2 3 ∷ [] }

abbrev pub after : Graph
after = record { nodes = map node_row (1 ∷ 2 ∷ 3 ∷ 4 ∷ []); edges = edge_row 1 1 2 ∷ edge_row 2 2 4 ∷ [] }

abbrev pub moved : List Elem
moved = node 1 ∷ edge 2 ∷ []

-- an edge alone, and an edge with its ends
abbrev pub alone : Pattern
alone = record { edge_vars = true ∷ []; atoms = [] }

abbrev pub ended : Pattern
ended = record { edge_vars = true ∷ false ∷ false ∷ []; atoms = Ends 0 1 2 ∷ [] }
