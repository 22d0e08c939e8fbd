-- A property graph: two finite maps, nodes to their rows and edges to theirs, each as its rows by ascending number.
use Rattle.std.specs.Prelude.{ℕ, ◌+◌, Bool, ◌&&◌, ◌||◌, List, [], length, nat_lt, Option, is_some, ◌==◌}
use Rattle.std.specs.Ordering.{nat_cmp}
use Rattle.std.specs.declared.cmp.Ordering.{Ordering}
use Rattle.std.specs.List.{list_all}
use Rattle.std.specs.BTreeMap.{is_at, insert_entry}
use Rattle.std.specs.Map.{lookup, keys_of, remove_entry}
use Rattle.pgs_base.specs.declared.element.NodeId.{NodeId}
use Rattle.pgs_base.specs.declared.element.EdgeId.{EdgeId}
use Rattle.pgs_base.specs.declared.row.NodeRow.{NodeRow}
use Rattle.pgs_base.specs.declared.row.EdgeRow.{EdgeRow}
use Rattle.pgs_base.specs.Order.{ascends}
use Rattle.pgs_base.specs.Pair.{pair_of, is_pair}

-- the order of nodes and of edges: by number
abbrev pub node_cmp : NodeId → NodeId → Ordering
node_cmp a b = nat_cmp a.0 b.0

abbrev pub edge_cmp : EdgeId → EdgeId → Ordering
edge_cmp a b = nat_cmp a.0 b.0

pub record Graph : Type 0 where
  pub nodes : List (NodeId × NodeRow)
  pub edges : List (EdgeId × EdgeRow)

-- the graph without nodes and edges
abbrev pub empty_graph : Graph
empty_graph = record { nodes = []; edges = [] }

-- the row of a node, where it is there
abbrev pub node_at : Graph → NodeId → Option NodeRow
node_at g id = lookup (is_at (node_cmp id)) g.nodes

-- the row of an edge, where it is there
abbrev pub edge_at : Graph → EdgeId → Option EdgeRow
edge_at g id = lookup (is_at (edge_cmp id)) g.edges

-- how many nodes and edges there are
abbrev pub element_count : Graph → ℕ
element_count g = length g.nodes + length g.edges

-- the graph with this row of the node, in place of the one that it has, if it is there
abbrev pub with_node : Graph → NodeId → NodeRow → Graph
with_node g id row = record g { nodes = insert_entry node_cmp g.nodes id row }

-- the graph with this row of the edge
abbrev pub with_edge : Graph → EdgeId → EdgeRow → Graph
with_edge g id row = record g { edges = insert_entry edge_cmp g.edges id row }

abbrev pub without_node : Graph → NodeId → Graph
without_node g id = record g { nodes = remove_entry (is_at (node_cmp id)) g.nodes }

abbrev pub without_edge : Graph → EdgeId → Graph
without_edge g id = record g { edges = remove_entry (is_at (edge_cmp id)) g.edges }

-- whether a node is an end of an edge
abbrev pub is_end : NodeId → EdgeRow → Bool
is_end id row = row.source.0 == id.0 || row.target.0 == id.0

-- whether both ends of an edge are nodes of the graph
abbrev pub has_ends : Graph → EdgeRow → Bool
has_ends g row = is_some (node_at g row.source) && is_some (node_at g row.target)

-- whether a number can be that of an element: it is below 2 ^ 64
abbrev pub is_element_number : ℕ → Bool
is_element_number number = nat_lt number 18446744073709551616

-- whether a node can stand in a graph: it has such a number, and carries a pair
abbrev pub is_node_entry : NodeId × NodeRow → Bool
is_node_entry node = is_element_number node.0.0 && is_pair node.1

-- the same of an edge
abbrev pub is_edge_entry : EdgeId × EdgeRow → Bool
is_edge_entry edge = is_element_number edge.0.0 && is_pair (pair_of edge.1.labels edge.1.props)

-- whether two lists of rows are a graph: each number stands once, in order, each element can stand there, and both ends of each
-- edge are there
abbrev pub is_graph : Graph → Bool
is_graph g =
    ascends node_cmp (keys_of g.nodes) && ascends edge_cmp (keys_of g.edges)
    && list_all is_node_entry g.nodes && list_all is_edge_entry g.edges
    && list_all (λ (edge : EdgeId × EdgeRow). has_ends g edge.1) g.edges
