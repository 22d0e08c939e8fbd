use Rattle.std.proofs.Common.{◌≡◌, drop}
use Rattle.pgs_json.specs.Tree.{members_view}
use Rattle.pgs_json_causes.specs.Cause.{first_value_cause}
use Rattle.pgs_json_causes.proofs.member_cause.first_value_cause.Given as goal

abbrev pub invariant-loop-name : goal.invariant-loop-name
invariant-loop-name l = first_value_cause (members_view l.members) ≡ first_value_cause (members_view (drop l.name-index l.members))
