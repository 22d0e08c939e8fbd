use Rattle.std.proofs.Common.{◌+◌, ◌<◌, ◌≤◌}
use Rattle.pgs_resolve_order.specs.Searching.{mark_at, unseen_work}
use Rattle.pgs_resolve_order.specs.DepthFirst.{way_of, IsDepthFirst, StayMarked, left_work}
use Rattle.pgs_resolve_order.proofs.depth_first.DepthFirst.visit.Given as goal

abbrev pub invariant-loop-visit : goal.invariant-loop-visit
invariant-loop-visit g l = record {
  search : IsDepthFirst l.rows l.self.marks.items (way_of l.self);
  stay : StayMarked l.fn.self.marks.items l.self.marks.items;
  seen : 0 < mark_at l.self.marks.items l.start;
  work : l.steps + left_work l.rows l.self.marks.items (way_of l.self) ≤ l.fn.steps + unseen_work l.rows l.fn.self.marks.items;
}

abbrev pub decreases-loop-visit : goal.decreases-loop-visit
decreases-loop-visit g l = left_work l.rows l.self.marks.items (way_of l.self)
