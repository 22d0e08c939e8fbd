use Rattle.std.proofs.Common.{take}
use Rattle.pgs_run_contain.specs.Running.{TellsAll}
use Rattle.pgs_run_contain.proofs.types.put_types.Given as goal

abbrev pub invariant-loop-number : goal.invariant-loop-number
invariant-loop-number g l =
    TellsAll l.first l.containing.second l.containing.avoid (take l.number-index l.numbers) l.some (g.W.World.view l.fn.world) (g.W.World.view l.world)
