use Rattle.std.proofs.Common.{◌≡◌, take}
use Rattle.pgs_schema.proofs.schema.plan_keys.Given as goal

abbrev pub invariant-loop-key : goal.invariant-loop-key
invariant-loop-key l = l.planned.items ≡ take l.key-index l.keys
