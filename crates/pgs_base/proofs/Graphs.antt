-- The parts of what a graph is, by name.
use Rattle.std.proofs.Common.{◌≡◌, true}
use Rattle.std.specs.List.{list_all}
use Rattle.std.specs.Map.{keys_of}
use Rattle.std.proofs.lemmas.Bool.{and_parts, and_from}
use Rattle.pgs_base.specs.declared.element.EdgeId.{EdgeId}
use Rattle.pgs_base.specs.declared.row.EdgeRow.{EdgeRow}
use Rattle.pgs_base.specs.Graph.{Graph, node_cmp, edge_cmp, is_node_entry, is_edge_entry, has_ends, is_graph}
use Rattle.pgs_base.specs.Order.{ascends}

pub record IsGraph (g : Graph) : Type 0 where
  pub node_order : ascends node_cmp (keys_of g.nodes) ≡ true
  pub edge_order : ascends edge_cmp (keys_of g.edges) ≡ true
  pub nodes : list_all is_node_entry g.nodes ≡ true
  pub edges : list_all is_edge_entry g.edges ≡ true
  pub ends : list_all (λ (edge : EdgeId × EdgeRow). has_ends g edge.1) g.edges ≡ true

pub graph_parts : (g : Graph) → is_graph g ≡ true → IsGraph g
graph_parts g graph =
    let with_ends = and_parts _ _ graph in
    let with_edges = and_parts _ _ with_ends.0 in
    let with_nodes = and_parts _ _ with_edges.0 in
    let orders = and_parts _ _ with_nodes.0 in
    record { node_order = orders.0; edge_order = orders.1; nodes = with_nodes.1; edges = with_edges.1; ends = with_ends.1 }

pub graph_from : (g : Graph) → IsGraph g → is_graph g ≡ true
graph_from g parts =
    and_from _ _ (and_from _ _ (and_from _ _ (and_from _ _ parts.node_order parts.edge_order) parts.nodes) parts.edges) parts.ends
