use Rattle.std.proofs.Common.{map, take}
use Rattle.pgs_run_lines.specs.Puts.{PutsAll}
use Rattle.pgs_run_try.specs.Told.{listed_line}
use Rattle.pgs_run_try.proofs.listing.put_all_listed.Given as goal

abbrev pub invariant-loop-violation : goal.invariant-loop-violation
invariant-loop-violation g l =
    PutsAll (g.W.World.view l.fn.world) (map listed_line (take l.violation-index l.found)) (g.W.World.view l.world)
