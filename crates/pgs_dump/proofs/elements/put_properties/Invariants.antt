use Rattle.std.proofs.Common.{take}
use Rattle.pgs_run_lines.specs.Puts.{PutsAll}
use Rattle.pgs_dump.specs.Parts.{set_lines}
use Rattle.pgs_dump.proofs.elements.put_properties.Given as goal

abbrev pub invariant-loop-property : goal.invariant-loop-property
invariant-loop-property g l =
    PutsAll (g.W.World.view l.fn.world) (set_lines l.elem (take l.property-index l.properties)) (g.W.World.view l.world)
