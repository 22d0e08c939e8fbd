use Rattle.std.proofs.Common.{map, take}
use Rattle.pgs_answer.specs.Lines.{key_value_line}
use Rattle.pgs_run_lines.specs.Puts.{PutsAll}
use Rattle.pgs_run_store.proofs.explaining.keys.put_values.Given as goal

abbrev pub invariant-loop-tuple : goal.invariant-loop-tuple
invariant-loop-tuple g l =
    PutsAll (g.W.World.view l.fn.world) (map (key_value_line l.number) (take l.tuple-index l.values)) (g.W.World.view l.world)
