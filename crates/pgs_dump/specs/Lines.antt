-- The lines of a graph: one operation a line, which together make it.
use Rattle.std.specs.Prelude.{ℕ, List, [], ◌∷◌, ◌++◌, map}
use Rattle.std.specs.List.{flat_map}
use Rattle.pgs_base.specs.declared.element.NodeId.{NodeId}
use Rattle.pgs_base.specs.declared.element.EdgeId.{EdgeId}
use Rattle.pgs_base.specs.declared.element.Elem.{Elem}
use Rattle.pgs_base.specs.declared.element.Elem.TheVariants.{Node, Edge}
use Rattle.pgs_base.specs.declared.row.NodeRow.{NodeRow}
use Rattle.pgs_base.specs.declared.row.EdgeRow.{EdgeRow}
use Rattle.pgs_base.specs.declared.value.Value.{Value}
use Rattle.pgs_base.specs.Graph.{Graph}
use Rattle.pgs_graph.specs.declared.operation.Op.{Op}
use Rattle.pgs_graph.specs.declared.operation.Op.TheVariants.{AddNode, AddEdge, SetNode, SetEdge}
use Rattle.pgs_answer.specs.Lines.{txn_line}

-- the operation that sets a property of an element
abbrev pub set_op : Elem → List ℕ × Value → Op
set_op (Node id) property = SetNode id property.0 property.1
set_op (Edge id) property = SetEdge id property.0 property.1

-- the operations that make a node: an add with its labels and no properties, then one for each property, by name
abbrev pub node_ops : NodeId × NodeRow → List Op
node_ops node = AddNode node.0 node.1.labels [] ∷ map (set_op (Node node.0)) node.1.props

-- those that make an edge
abbrev pub edge_ops : EdgeId × EdgeRow → List Op
edge_ops edge = AddEdge edge.0 edge.1.source edge.1.target edge.1.labels [] ∷ map (set_op (Edge edge.0)) edge.1.props

-- those that make a graph: the nodes by number, then the edges
abbrev pub graph_ops : Graph → List Op
graph_ops g = flat_map node_ops g.nodes ++ flat_map edge_ops g.edges

-- a line of one operation
abbrev pub op_line : Op → List ℕ
op_line op = txn_line (record { ops = op ∷ [] })

-- the lines of a graph
abbrev pub graph_lines : Graph → List (List ℕ)
graph_lines g = map op_line (graph_ops g)
