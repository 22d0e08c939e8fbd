use Rattle.std.proofs.Common.{take}
use Rattle.pgs_run_lines.specs.Puts.{PutsAll}
use Rattle.pgs_run_store.specs.Explaining.{type_lines}
use Rattle.pgs_run_store.proofs.explaining.types.put_types.Given as goal

abbrev pub invariant-loop-type_no : goal.invariant-loop-type_no
invariant-loop-type_no g l =
    PutsAll (g.W.World.view l.fn.world) (type_lines l.resolved (take l.type_no-index l.types)) (g.W.World.view l.world)
