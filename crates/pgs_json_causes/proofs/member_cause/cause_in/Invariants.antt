use Rattle.std.proofs.Common.{◌≡◌, map, drop}
use Rattle.pgs_json.specs.Tree.{members_view}
use Rattle.pgs_json_causes.specs.Cause.{cause_in}
use Rattle.pgs_json_causes.proofs.member_cause.cause_in.Given as goal

abbrev pub invariant-loop-row : goal.invariant-loop-row
invariant-loop-row l =
    cause_in l.test (map (λ row. (row.0.now, row.1)) l.rows) (members_view l.members)
    ≡ cause_in l.test (map (λ row. (row.0.now, row.1)) (drop l.row-index l.rows)) (members_view l.members)
