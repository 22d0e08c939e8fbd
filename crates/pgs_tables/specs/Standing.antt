-- What tables mean, and when they stand.
use Rattle.std.specs.Prelude.{◌≡◌, ℕ, ◌+◌, ◌*◌, true, List, map, length, Option, IfSome}
use Rattle.std.specs.List.{list_all}
use Rattle.std.specs.Map.{keys_of, lookup}
use Rattle.std.specs.BTreeMap.{is_at}
use Rattle.pgs_base.specs.declared.element.NodeId.{NodeId}
use Rattle.pgs_base.specs.declared.element.EdgeId.{EdgeId}
use Rattle.pgs_base.specs.declared.row.EdgeRow.{EdgeRow}
use Rattle.pgs_base.specs.declared.seed.Seed.{Seed}
use Rattle.pgs_base.specs.Graph.{Graph, node_cmp, edge_cmp, element_count, is_graph}
use Rattle.pgs_graph.specs.declared.delta.Delta.{Delta}
use Rattle.pgs_tables.specs.Slots.{Slots, has_slot}
use Rattle.pgs_tables.specs.declared.node_edges.NodeTable.{NodeTable}
use Rattle.pgs_tables.specs.Adjacency.{node_edges}

-- the seeds by which the numbers of nodes and of edges are hashed
pub record TableSeeds : Type 0 where
  pub nodes : Seed
  pub edges : Seed

-- both are this one
abbrev pub seeds_by : Seed → TableSeeds
seeds_by seed = record { nodes = seed; edges = seed }

-- what contracts see of tables: the graph that they mean, the delta that they are ready for, how many slots they have, and how they hash
pub record TablesState : Type 0 where
  pub graph : Graph
  pub ready : Option Delta
  pub slots : ℕ
  pub seeds : TableSeeds

-- how many slots there are in two tables
abbrev pub slot_count : Slots NodeId NodeTable → Slots EdgeId EdgeRow → ℕ
slot_count nodes edges = length nodes.numbers + length edges.numbers

-- how many slots tables of a graph have at most, once a delta was prepared: two for each node and edge, and one for each change
abbrev pub most_slots : Graph → Delta → ℕ
most_slots g delta = 2 * element_count g + (length delta.nodes + length delta.edges)

-- the graph of the rows that are there
abbrev pub graph_of : List (NodeId × NodeTable) → List (EdgeId × EdgeRow) → Graph
graph_of nodes edges = record { nodes = map (λ (node : NodeId × NodeTable). (node.0, node.1.row)) nodes; edges = edges }

-- each number of a delta has a slot
pub record HasRoom (nodes : Slots NodeId NodeTable) (edges : Slots EdgeId EdgeRow) (delta : Delta) : Type 0 where
  pub for_nodes : list_all (has_slot node_cmp nodes) (keys_of delta.nodes) ≡ true
  pub for_edges : list_all (has_slot edge_cmp edges) (keys_of delta.edges) ≡ true

-- each node has the edges that the graph has at it
abbrev pub HasItsEdges : Graph → List (NodeId × NodeTable) → NodeId → Type 0
HasItsEdges g nodes id = IfSome (lookup (is_at (node_cmp id)) nodes) (λ table. table.edges ≡ node_edges g id)

-- the rows are a graph, each node's lists are exactly its edges, and there is room for the delta that the tables are ready for
pub record AreTables (nodes : Slots NodeId NodeTable) (edges : Slots EdgeId EdgeRow) (ready : Option Delta) : Type 0 where
  pub graph : is_graph (graph_of nodes.rows edges.rows) ≡ true
  pub listed : (id : NodeId) → HasItsEdges (graph_of nodes.rows edges.rows) nodes.rows id
  pub room : IfSome ready (HasRoom nodes edges)
