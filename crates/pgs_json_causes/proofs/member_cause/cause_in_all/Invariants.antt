use Rattle.std.proofs.Common.{◌≡◌, map, drop}
use Rattle.pgs_json.specs.Tree.{members_view}
use Rattle.pgs_json_causes.specs.Cause.{cause_in_all}
use Rattle.pgs_json_causes.proofs.member_cause.cause_in_all.Given as goal

abbrev pub invariant-loop-test : goal.invariant-loop-test
invariant-loop-test l =
    cause_in_all l.tests (map (λ row. (row.0.now, row.1)) l.rows) (members_view l.members)
    ≡ cause_in_all (drop l.test-index l.tests) (map (λ row. (row.0.now, row.1)) l.rows) (members_view l.members)
