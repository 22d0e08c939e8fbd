use Rattle.std.proofs.Common.{ℕ, ◌+◌, ◌-◌, ◌^◌, ◌<◌, ◌≤◌, length}
use Rattle.pgs_tables_edges.specs.Numbers.{AllBelow}
use Rattle.pgs_overlay.specs.Found.{AllFrom}
use Rattle.pgs_overlay.proofs.Halving.{IsWithin}
use Rattle.pgs_overlay.proofs.search.place_between.Given as goal

abbrev pub invariant-loop-low : goal.invariant-loop-low
invariant-loop-low g l = record {
  in_range : l.low ≤ length l.list;
  order : l.low ≤ l.high;
  lower : AllBelow l.edge l.list l.low;
  upper : AllFrom l.edge l.list l.high;
  never_back : l.initial.steps ≤ l.steps;
  within : (k : ℕ) → l.initial.high < l.initial.low + 2 ^ k → IsWithin k l.initial.steps l.steps l.low l.high;
}

abbrev pub decreases-loop-low : goal.decreases-loop-low
decreases-loop-low g l = l.high - l.low
