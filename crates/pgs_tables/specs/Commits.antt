-- What becomes of a row of the tables while a delta is put in.
use Rattle.std.specs.Prelude.{cond, List, fold, Option, Some, None}
use Rattle.std.specs.Option.{option_map}
use Rattle.std.specs.BTreeMap.{is_at}
use Rattle.pgs_base.specs.declared.element.NodeId.{NodeId}
use Rattle.pgs_base.specs.declared.row.NodeRow.{NodeRow}
use Rattle.pgs_base.specs.Graph.{node_cmp}
use Rattle.pgs_tables.specs.declared.node_edges.NodeEdges.{NodeEdges}
use Rattle.pgs_tables.specs.declared.node_edges.NodeTable.{NodeTable}
use Rattle.pgs_tables.specs.Adjacency.{no_edges}

-- the edges of a row, where there is one
abbrev pub edges_kept : Option NodeTable → NodeEdges
edges_kept None = no_edges
edges_kept (Some table) = table.edges

-- a row after a change: its edges stay
abbrev pub row_changed : Option NodeRow → Option NodeTable → Option NodeTable
row_changed new old = option_map (λ (row : NodeRow). record { row = row; edges = edges_kept old }) new

-- what stands at a node `q` after a change of a node
abbrev pub row_put : NodeId → Option NodeTable → NodeId × Option NodeRow → Option NodeTable
row_put q old change = cond (is_at (node_cmp change.0) q) (row_changed change.1 old) old

-- a row with other edges
abbrev pub relinked : NodeEdges → Option NodeTable → Option NodeTable
relinked edges old = option_map (λ (table : NodeTable). record table { edges = edges }) old

-- what stands at a node `q` after the edges of a node are put in
abbrev pub edges_put : NodeId → Option NodeTable → NodeId × NodeEdges → Option NodeTable
edges_put q old list = cond (is_at (node_cmp list.0) q) (relinked list.1 old) old

-- what stands at a node after changes, and after lists
abbrev pub rows_put : NodeId → Option NodeTable → List (NodeId × Option NodeRow) → Option NodeTable
rows_put q old changes = fold (row_put q) old changes

abbrev pub lists_put : NodeId → Option NodeTable → List (NodeId × NodeEdges) → Option NodeTable
lists_put q old lists = fold (edges_put q) old lists
