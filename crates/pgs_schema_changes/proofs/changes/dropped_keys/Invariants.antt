use Rattle.std.proofs.Common.{◌≡◌, map, take}
use Rattle.pgs_schema_changes.specs.AsksNoMore.{is_dropped}
use Rattle.pgs_schema_changes.proofs.changes.dropped_keys.Given as goal

abbrev pub invariant-loop-own : goal.invariant-loop-own
invariant-loop-own l = l.dropped.items ≡ map (is_dropped l.old l.new) (take l.own-index l.keys)
