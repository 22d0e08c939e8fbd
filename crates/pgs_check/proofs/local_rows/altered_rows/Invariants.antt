use Rattle.std.proofs.Common.{◌≡◌, map, filter, take}
use Rattle.pgs_check.specs.Own.{is_altered, altered_to}
use Rattle.pgs_check.proofs.local_rows.altered_rows.Given as goal

abbrev pub invariant-loop-one : goal.invariant-loop-one
invariant-loop-one l = l.rows.items ≡ map (altered_to l.compiled l.key l.number) (filter (is_altered l.compiled l.key) (take l.one-index l.known))
