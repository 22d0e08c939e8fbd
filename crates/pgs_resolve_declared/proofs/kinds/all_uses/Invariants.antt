use Rattle.std.proofs.Common.{◌≡◌, take}
use Rattle.std.specs.List.{flat_map}
use Rattle.pgs_resolve_declared.specs.Refused.{uses_in}
use Rattle.pgs_resolve_declared.proofs.kinds.all_uses.Given as goal

abbrev pub invariant-loop-statement : goal.invariant-loop-statement
invariant-loop-statement l = l.uses.items ≡ flat_map uses_in (take l.statement-index l.statement-items)
