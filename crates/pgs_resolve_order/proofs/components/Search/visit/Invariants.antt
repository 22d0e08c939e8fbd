use Rattle.pgs_resolve_order.specs.Searching.{IsSearch, work_of}
use Rattle.pgs_resolve_order.proofs.components.Search.visit.Given as goal

abbrev pub invariant-loop-frame : goal.invariant-loop-frame
invariant-loop-frame l = IsSearch l.rows l.self

abbrev pub decreases-loop-frame : goal.decreases-loop-frame
decreases-loop-frame l = work_of l.rows l.self
