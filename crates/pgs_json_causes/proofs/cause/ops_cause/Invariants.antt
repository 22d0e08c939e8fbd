use Rattle.std.proofs.Common.{◌≡◌, suc, drop}
use Rattle.pgs_json.specs.Tree.{items_view}
use Rattle.pgs_json_causes.specs.Cause.{ops_cause}
use Rattle.pgs_json_causes.proofs.cause.ops_cause.Given as goal

abbrev pub invariant-loop-at : goal.invariant-loop-at
invariant-loop-at l = ops_cause 1 (items_view l.items) ≡ ops_cause (suc l.at) (items_view (drop l.at l.items))
