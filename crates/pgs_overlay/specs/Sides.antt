-- The two lists of edges at a node: those that go out of it, and those that come in at it.
use Rattle.std.specs.Prelude.{List}
use Rattle.pgs_base.specs.declared.element.NodeId.{NodeId}
use Rattle.pgs_base.specs.declared.element.EdgeId.{EdgeId}
use Rattle.pgs_base.specs.declared.row.EdgeRow.{EdgeRow}
use Rattle.pgs_graph.specs.declared.scan.End.{End}
use Rattle.pgs_graph.specs.declared.scan.End.TheVariants.{Source, Target}
use Rattle.pgs_graph.specs.Reads.{edges_with}
use Rattle.pgs_overlay.specs.declared.side.Side.{Side}
use Rattle.pgs_overlay.specs.declared.side.Side.TheVariants.{Out, In}

-- the end of an edge at which a node lists it
abbrev pub end_at : Side → End
end_at Out = Source
end_at In = Target

-- the list of a node, among edges
abbrev pub edges_at : Side → NodeId → List (EdgeId × EdgeRow) → List EdgeId
edges_at side id edges = edges_with (end_at side) id edges
