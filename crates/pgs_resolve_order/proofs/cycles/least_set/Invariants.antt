use Rattle.pgs_resolve_order.specs.Links.{IsLeastSet}
use Rattle.pgs_resolve_order.proofs.cycles.least_set.Given as goal

abbrev pub invariant-loop-number : goal.invariant-loop-number
invariant-loop-number l = IsLeastSet l.names l.flags l.number l.least
