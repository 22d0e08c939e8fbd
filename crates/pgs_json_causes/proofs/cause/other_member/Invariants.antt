use Rattle.std.proofs.Common.{◌≡◌, drop}
use Rattle.std.specs.List.{find}
use Rattle.pgs_json.specs.Form.{names_in}
use Rattle.pgs_json.specs.Tree.{members_view}
use Rattle.pgs_json_causes.specs.Cause.{is_not_ops}
use Rattle.pgs_json_causes.proofs.cause.other_member.Given as goal

abbrev pub invariant-loop-name : goal.invariant-loop-name
invariant-loop-name l =
    find is_not_ops (names_in (members_view l.members)) ≡ find is_not_ops (names_in (members_view (drop l.name-index l.members)))
