use Rattle.std.proofs.Common.{◌≡◌, map, drop}
use Rattle.pgs_json.specs.Tree.{members_view}
use Rattle.pgs_json_causes.specs.Cause.{lacking}
use Rattle.pgs_json_causes.proofs.operation.lacking.Given as goal

abbrev pub invariant-loop-name : goal.invariant-loop-name
invariant-loop-name l =
    lacking (map (λ row. (row.0.now, row.1)) l.rows) (members_view l.members)
    ≡ lacking (map (λ row. (row.0.now, row.1)) (drop l.name-index l.rows)) (members_view l.members)
