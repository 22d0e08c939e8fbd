use Rattle.pgs_feed.proofs.Visits.{InTurn}
use Rattle.pgs_feed.proofs.visiting.visit_each.Given as goal

abbrev pub invariant-loop-place : goal.invariant-loop-place
invariant-loop-place g l = InTurn g.V.Visit.visited l.place l.fn.visitor l.fn.items.items l.items.items l.visitor
