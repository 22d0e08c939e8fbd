use Rattle.std.proofs.Common.{◌≡◌, ◌+◌, ◌*◌, ◌≤◌, take}
use Rattle.std.specs.Map.{keys_of}
use Rattle.pgs_check.specs.Untyped.{is_untyped_edge, least_edge}
use Rattle.pgs_check.proofs.untyped.least_changed.Given as goal

abbrev pub invariant-loop-change : goal.invariant-loop-change
invariant-loop-change g l = record {
  so_far : l.found ≡ least_edge (is_untyped_edge l.compiled (g.G.GraphRead.meaning l.graph)) l.fn.found (take l.change-index (keys_of l.changes));
  no_step_back : l.fn.steps ≤ l.steps;
  cost : l.steps ≤ l.fn.steps + 3 * l.change-index;
}
