use Rattle.std.proofs.Common.{◌≡◌, ◌++◌, true, map, take}
use Rattle.pgs_syntax.specs.declared.resolved.Resolved.{Resolved}
use Rattle.pgs_syntax.specs.Valid.{is_type}
use Rattle.pgs_advice.specs.Subtypes.{own_type, shown_types, subtypes_among, AreNamings}
use Rattle.pgs_advice.proofs.subtypes.push_subtypes.Given as goal

abbrev pub invariant-loop-naming : goal.invariant-loop-naming
invariant-loop-naming l = (resolved : Resolved) → AreNamings resolved (shown_types resolved) l.namings → is_type resolved l.base ≡ true →
    l.subtypes.items ≡ l.fn.subtypes.items ++ subtypes_among resolved l.base (map own_type (take l.naming-index l.namings))
