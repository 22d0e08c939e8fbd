-- The lines of the parts of a graph.
use Rattle.std.specs.Prelude.{ℕ, List, map}
use Rattle.std.specs.List.{flat_map}
use Rattle.pgs_base.specs.declared.element.NodeId.{NodeId}
use Rattle.pgs_base.specs.declared.element.EdgeId.{EdgeId}
use Rattle.pgs_base.specs.declared.element.Elem.{Elem}
use Rattle.pgs_base.specs.declared.row.NodeRow.{NodeRow}
use Rattle.pgs_base.specs.declared.row.EdgeRow.{EdgeRow}
use Rattle.pgs_base.specs.declared.value.Value.{Value}
use Rattle.pgs_dump.specs.Lines.{set_op, node_ops, edge_ops, op_line}

-- the lines that set properties of an element
abbrev pub set_lines : Elem → List (List ℕ × Value) → List (List ℕ)
set_lines elem properties = map op_line (map (set_op elem) properties)

-- the lines that make nodes
abbrev pub node_lines : List (NodeId × NodeRow) → List (List ℕ)
node_lines nodes = map op_line (flat_map node_ops nodes)

-- the lines that make edges
abbrev pub edge_lines : List (EdgeId × EdgeRow) → List (List ℕ)
edge_lines edges = map op_line (flat_map edge_ops edges)
