use Rattle.std.proofs.Common.{◌≡◌, take}
use Rattle.std.specs.List.{flat_map}
use Rattle.pgs_resolve_declared.specs.Declarations.{declared_in}
use Rattle.pgs_advice.specs.Used.{unused_names, used_names}
use Rattle.pgs_advice.proofs.script_types.unused_types.Given as goal

abbrev pub invariant-loop-statement : goal.invariant-loop-statement
invariant-loop-statement l = l.unused.items ≡ unused_names (used_names l.resolved) (flat_map declared_in (take l.statement-index l.statement-items))
