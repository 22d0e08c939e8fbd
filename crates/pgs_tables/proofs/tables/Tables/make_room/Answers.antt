use Rattle.std.proofs.Common.{length, ap, ◌∙◌, arith}
use Rattle.std.proofs.lemmas.List.{length-map}
use Rattle.pgs_base.specs.declared.element.NodeId.{NodeId}
use Rattle.pgs_base.specs.declared.row.NodeRow.{NodeRow}
use Rattle.pgs_tables.specs.declared.node_edges.NodeTable.{NodeTable}
use Rattle.pgs_tables.specs.Standing.{graph_of}
use Rattle.pgs_tables.proofs.tables.Tables.make_room.Goals as goal

pub returns-clause-graph : goal.returns-clause-graph
returns-clause-graph c =
    let nodes = c.make_slots.ensures.rows ∙ c.clear_slots.ensures.rows in
    let edges = c.make_slots-2.ensures.rows ∙ c.clear_slots-2.ensures.rows in
    (λ j. graph_of (nodes j) (edges j)) ∙ ap (λ s. s.graph) c.self.view_is

pub returns-clause-slots : goal.returns-clause-slots
returns-clause-slots c =
    omega (
      arith,
      length-map {B = NodeId × NodeRow} c.self.inside.nodes.rows (λ (node : NodeId × NodeTable). (node.0, node.1.row)),
      ap (λ s. length s.graph.nodes) c.self.view_is,
      ap (λ s. length s.graph.edges) c.self.view_is,
      ap length c.as_slice.ensures,
      ap length c.as_slice-2.ensures,
      c.clear_slots.ensures.few,
      c.clear_slots-2.ensures.few,
      c.make_slots.ensures.few,
      c.make_slots-2.ensures.few,
    )
