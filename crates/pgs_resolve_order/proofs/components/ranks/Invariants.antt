use Rattle.pgs_resolve_order.specs.Searching.{IsSearch}
use Rattle.pgs_resolve_order.proofs.components.ranks.Given as goal

abbrev pub invariant-loop-start : goal.invariant-loop-start
invariant-loop-start l = IsSearch l.rows l.search
