use Rattle.std.proofs.Common.{filter, take}
use Rattle.pgs_advice.specs.Subtypes.{is_shown, AreNamings}
use Rattle.pgs_advice.proofs.subtypes.namings.Given as goal

abbrev pub invariant-loop-number : goal.invariant-loop-number
invariant-loop-number l = AreNamings l.resolved (filter (is_shown l.resolved) (take l.number-index l.number-items)) l.all.items
