use Rattle.std.proofs.Common.{◌≡◌, map, drop}
use Rattle.pgs_json_causes.specs.Cause.{is_none_of}
use Rattle.pgs_json_causes.proofs.operation.is_none_of.Given as goal

abbrev pub invariant-loop-own : goal.invariant-loop-own
invariant-loop-own l =
    is_none_of (map (λ row. (row.0.now, row.1)) l.rows) l.name ≡ is_none_of (map (λ row. (row.0.now, row.1)) (drop l.own-index l.rows)) l.name
