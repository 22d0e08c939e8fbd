use Rattle.std.proofs.Common.{◌≡◌, map, take}
use Rattle.pgs_schema_changes.specs.AsksNoMore.{is_kept}
use Rattle.pgs_schema_changes.proofs.changes.kept_keys.Given as goal

abbrev pub invariant-loop-key : goal.invariant-loop-key
invariant-loop-key l = l.kept.items ≡ map (is_kept l.old l.new) (take l.key-index l.keys)
