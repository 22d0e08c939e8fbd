use Rattle.std.proofs.Common.{length}
use Rattle.pgs_resolve_order.specs.Listing.{AreAlike}
use Rattle.pgs_resolve_order.proofs.listing.first_unlisted.Given as goal

abbrev pub invariant-loop-next : goal.invariant-loop-next
invariant-loop-next l = AreAlike l.listed l.fn.names l.rest

abbrev pub decreases-loop-next : goal.decreases-loop-next
decreases-loop-next l = length l.rest
