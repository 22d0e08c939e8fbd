use Rattle.std.proofs.Common.{◌+◌, ◌-◌, ◌^◌, ◌<◌, ◌≤◌, length}
use Rattle.pgs_tables_edges.specs.Numbers.{AllBelow}
use Rattle.pgs_overlay.proofs.search.bounds.Given as goal

abbrev pub invariant-loop-edge : goal.invariant-loop-edge
invariant-loop-edge g l = record {
  in_range : l.low ≤ length l.list;
  lower : AllBelow l.edge l.list l.low;
  forward : l.from ≤ l.low;
  some : 1 ≤ l.step;
  step : l.step + l.from ≤ l.low + 1;
  never_back : l.initial.steps ≤ l.steps;
  far : 2 ^ (l.steps - l.initial.steps) + l.from ≤ l.low + 1;
  doubled : l.low + 1 < 2 ^ 64 → 2 ^ (l.steps - l.initial.steps) ≤ l.step;
}

abbrev pub decreases-loop-edge : goal.decreases-loop-edge
decreases-loop-edge g l = length l.list - l.low
