use Rattle.std.proofs.Common.{take}
use Rattle.pgs_run_lines.specs.Puts.{PutsAll}
use Rattle.pgs_dump.specs.Parts.{edge_lines}
use Rattle.pgs_dump.proofs.elements.put_edges.Given as goal

abbrev pub invariant-loop-id : goal.invariant-loop-id
invariant-loop-id g l =
    PutsAll (g.W.World.view l.fn.world) (edge_lines (take l.id-index (g.G.GraphRead.meaning l.graph).edges)) (g.W.World.view l.world)
