use Rattle.std.proofs.Common.{◌≡◌, map, drop}
use Rattle.std.specs.List.{find}
use Rattle.pgs_json.specs.Form.{names_in}
use Rattle.pgs_json.specs.Tree.{members_view}
use Rattle.pgs_json_causes.specs.Cause.{is_none_of}
use Rattle.pgs_json_causes.proofs.operation.other_member.Given as goal

abbrev pub invariant-loop-name : goal.invariant-loop-name
invariant-loop-name l =
    find (is_none_of (map (λ row. (row.0.now, row.1)) l.rows)) (names_in (members_view l.members))
    ≡ find (is_none_of (map (λ row. (row.0.now, row.1)) l.rows)) (names_in (members_view (drop l.name-index l.members)))
