use Rattle.std.proofs.Common.{◌≡◌, drop}
use Rattle.std.specs.List.{find}
use Rattle.pgs_json.specs.Form.{names_in}
use Rattle.pgs_json.specs.Tree.{members_view}
use Rattle.pgs_json_causes.specs.Cause.{tells_other}
use Rattle.pgs_json_causes.proofs.operation.other_kind.Given as goal

abbrev pub invariant-loop-name : goal.invariant-loop-name
invariant-loop-name l =
    find (tells_other l.kind) (names_in (members_view l.members)) ≡ find (tells_other l.kind) (names_in (members_view (drop l.name-index l.members)))
