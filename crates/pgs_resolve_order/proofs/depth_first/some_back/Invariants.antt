use Rattle.std.proofs.Common.{◌≡◌, ◌+◌, ◌*◌, ◌<◌, ◌≤◌, ℕ, [], length}
use Rattle.std.specs.List.{sum_by}
use Rattle.pgs_resolve_order.specs.Searching.{mark_at, unseen_work}
use Rattle.pgs_resolve_order.specs.DepthFirst.{IsDepthFirst}
use Rattle.pgs_resolve_order.proofs.depth_first.some_back.Given as goal

abbrev pub invariant-loop-start : goal.invariant-loop-start
invariant-loop-start g l = record {
  search : IsDepthFirst l.rows l.search.marks.items [];
  empty : l.search.visits.items ≡ [];
  done : (number : ℕ) → number < l.start → 1 < mark_at l.search.marks.items number;
  work : l.steps + unseen_work l.rows l.search.marks.items ≤ l.fn.steps + l.start + (2 * length l.rows + sum_by length l.rows);
}
