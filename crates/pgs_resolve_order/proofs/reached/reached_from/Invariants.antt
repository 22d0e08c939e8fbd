use Rattle.std.proofs.Common.{◌<◌, ◌≤◌, ◌-◌, ℕ, suc, length, get_or}
use Rattle.pgs_resolve_order.specs.Links.{row_at}
use Rattle.pgs_resolve_order.specs.Reached.{AreReached, AreSeen}
use Rattle.pgs_resolve_order.proofs.reached.reached_from.Given as goal

abbrev pub invariant-loop-place : goal.invariant-loop-place
invariant-loop-place l = record {
  reached : AreReached l.rows l.start l.seen.items l.reached.items;
  within : l.place ≤ length l.reached.items;
  followed : (k : ℕ) → k < l.place → AreSeen l.seen.items (row_at l.rows (get_or l.reached.items k 0));
}

-- no number is reached twice but for the start
abbrev pub decreases-loop-place : goal.decreases-loop-place
decreases-loop-place l = suc (length l.rows) - l.place
