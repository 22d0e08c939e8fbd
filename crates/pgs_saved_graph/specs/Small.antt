-- Graphs whose rows can be saved.
use Rattle.std.specs.Prelude.{Bool, ◌&&◌}
use Rattle.std.specs.List.{list_all}
use Rattle.pgs_base.specs.declared.element.NodeId.{NodeId}
use Rattle.pgs_base.specs.declared.element.EdgeId.{EdgeId}
use Rattle.pgs_base.specs.declared.row.NodeRow.{NodeRow}
use Rattle.pgs_base.specs.declared.row.EdgeRow.{EdgeRow}
use Rattle.pgs_base.specs.Graph.{Graph}
use Rattle.pgs_codec.specs.Encodable.{is_small_node, is_small_edge}

-- whether each row has at most 64 labels and 256 properties
abbrev pub has_small_rows : Graph → Bool
has_small_rows g =
    list_all (λ (node : NodeId × NodeRow). is_small_node node.1) g.nodes
    && list_all (λ (edge : EdgeId × EdgeRow). is_small_edge edge.1) g.edges
