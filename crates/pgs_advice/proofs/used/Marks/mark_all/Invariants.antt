use Rattle.std.proofs.Common.{◌++◌, List, take}
use Rattle.pgs_syntax.specs.declared.resolved.Resolved.{Resolved}
use Rattle.pgs_syntax.specs.declared.resolved.TypeNo.{TypeNo}
use Rattle.pgs_advice.specs.Used.{AreMarks}
use Rattle.pgs_advice.proofs.used.Marks.mark_all.Given as goal

abbrev pub invariant-loop-number : goal.invariant-loop-number
invariant-loop-number l =
    (resolved : Resolved) (used : List TypeNo) → AreMarks resolved used l.fn.self → AreMarks resolved (used ++ take l.number-index l.types) l.self
