-- What becomes of the edges at a node, edge by edge of a delta, while its new lists are made.
use Rattle.std.specs.Prelude.{Bool, true, false, ◌&&◌, cond, List, Option, Some, None, unwrap_or, fold}
use Rattle.std.specs.BTreeMap.{is_at}
use Rattle.std.specs.Map.{lookup}
use Rattle.pgs_base.specs.declared.element.NodeId.{NodeId}
use Rattle.pgs_base.specs.declared.element.EdgeId.{EdgeId}
use Rattle.pgs_base.specs.declared.row.NodeRow.{NodeRow}
use Rattle.pgs_base.specs.declared.row.EdgeRow.{EdgeRow}
use Rattle.pgs_base.specs.Graph.{Graph, node_cmp, edge_at}
use Rattle.pgs_graph.specs.Lists.{list_edited}
use Rattle.pgs_tables.specs.declared.edit.Side.{Side}
use Rattle.pgs_tables.specs.declared.edit.Side.TheVariants.{Out, In}
use Rattle.pgs_tables.specs.declared.edit.Edit.{Edit}
use Rattle.pgs_tables.specs.declared.node_edges.NodeEdges.{NodeEdges}
use Rattle.pgs_tables.specs.Adjacency.{node_edges}

-- the edges at a node after an edit on one side
abbrev pub side_edited : Side → Bool → EdgeId → NodeEdges → NodeEdges
side_edited Out adds edge edges = record edges { outgoing = list_edited adds edge edges.outgoing }
side_edited In adds edge edges = record edges { incoming = list_edited adds edge edges.incoming }

abbrev pub edges_edited : Edit → NodeEdges → NodeEdges
edges_edited edit edges = side_edited edit.side edit.adds edit.edge edges

-- whether a change leaves a row, where there is a change
abbrev pub leaves_row : Option (Option NodeRow) → Bool
leaves_row None = true
leaves_row (Some None) = false
leaves_row (Some (Some row)) = true

-- whether changes of nodes leave a node, where it is there
abbrev pub stays : List (NodeId × Option NodeRow) → NodeId → Bool
stays changes id = leaves_row (lookup (is_at (node_cmp id)) changes)

module _ (base : NodeEdges) (left : Bool) (q : NodeId) where
  -- an edit of the edges at a node `id`, which are those that are made already, and else those that it had
  abbrev pub relisted : NodeId → Side → Bool → EdgeId → Option NodeEdges → Option NodeEdges
  relisted id side adds edge made = cond (is_at (node_cmp id) q && left) (Some (side_edited side adds edge (unwrap_or made base))) made

  -- an edit at both ends of an edge, where there is one
  abbrev pub relisted_ends : Bool → EdgeId → Option EdgeRow → Option NodeEdges → Option NodeEdges
  relisted_ends adds edge None made = made
  relisted_ends adds edge (Some row) made = relisted row.target In adds edge (relisted row.source Out adds edge made)

  -- a changed edge taken out where it was, and put in where it is
  abbrev pub relisted_change : (EdgeId → Option EdgeRow) → Option NodeEdges → EdgeId × Option EdgeRow → Option NodeEdges
  relisted_change old made change = relisted_ends true change.0 change.1 (relisted_ends false change.0 (old change.0) made)

-- the new edges at a node, after the changes of edges
abbrev pub relisted_all : Graph → List (NodeId × Option NodeRow) → NodeId → List (EdgeId × Option EdgeRow) → Option NodeEdges →
    Option NodeEdges
relisted_all g nodes q changes made = fold (relisted_change (node_edges g q) (stays nodes q) q (edge_at g)) made changes
