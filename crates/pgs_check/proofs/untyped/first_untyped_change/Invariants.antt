use Rattle.std.proofs.Common.{◌≡◌, ◌+◌, ◌≤◌, [], take}
use Rattle.std.specs.Prelude.{filter_map}
use Rattle.pgs_check.specs.Untyped.{untyped_change}
use Rattle.pgs_check.proofs.untyped.first_untyped_change.Given as goal

abbrev pub invariant-loop-change : goal.invariant-loop-change
invariant-loop-change g l = record {
  none : [] ≡ filter_map (untyped_change l.compiled) (take l.change-index l.changes);
  no_step_back : l.fn.steps ≤ l.steps;
  cost : l.steps ≤ l.fn.steps + l.change-index;
}
