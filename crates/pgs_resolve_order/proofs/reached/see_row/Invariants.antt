use Rattle.std.proofs.Common.{◌≡◌, ◌<◌, ℕ, length, get_or, take}
use Rattle.pgs_resolve_order.specs.Reached.{AreReached, AreSeen, StaySeen, StayReached}
use Rattle.pgs_resolve_order.proofs.reached.see_row.Given as goal

abbrev pub invariant-loop-next : goal.invariant-loop-next
invariant-loop-next l = record {
  reached : (start place : ℕ) → AreReached l.rows start l.fn.seen.items l.fn.reached.items → place < length l.fn.reached.items →
      get_or l.fn.reached.items place 0 ≡ l.from → AreReached l.rows start l.seen.items l.reached.items;
  all : AreSeen l.seen.items (take l.next-index l.next-items);
  seen : StaySeen l.fn.seen.items l.seen.items;
  places : StayReached l.fn.reached.items l.reached.items;
}
