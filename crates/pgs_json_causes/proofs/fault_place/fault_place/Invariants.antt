use Rattle.std.proofs.Common.{◌≤◌}
use Rattle.pgs_json_causes.proofs.fault_place.fault_place.Given as goal

abbrev pub invariant-loop-at : goal.invariant-loop-at
invariant-loop-at l = l.number ≤ l.at
