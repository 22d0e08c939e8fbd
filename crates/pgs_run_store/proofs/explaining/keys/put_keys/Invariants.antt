use Rattle.std.proofs.Common.{take}
use Rattle.pgs_run_lines.specs.Puts.{PutsAll}
use Rattle.pgs_run_store.specs.Explaining.{key_numbers, keys_lines}
use Rattle.pgs_run_store.proofs.explaining.keys.put_keys.Given as goal

abbrev pub invariant-loop-place : goal.invariant-loop-place
invariant-loop-place g l =
    let guard = l.store.guard in
    PutsAll (g.W.World.view l.fn.world) (keys_lines guard.schema guard.graph l.elem (take l.place (key_numbers guard.schema))) (g.W.World.view l.world)
