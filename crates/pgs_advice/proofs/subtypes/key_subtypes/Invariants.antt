use Rattle.std.proofs.Common.{◌≡◌, true, take}
use Rattle.std.specs.List.{flat_map}
use Rattle.pgs_syntax.specs.declared.resolved.Resolved.{Resolved}
use Rattle.pgs_syntax.specs.Valid.{is_valid_key_of}
use Rattle.pgs_advice.specs.Subtypes.{shown_types, subtypes_of, AreNamings}
use Rattle.pgs_advice.proofs.subtypes.key_subtypes.Given as goal

abbrev pub invariant-loop-base : goal.invariant-loop-base
invariant-loop-base l = (resolved : Resolved) → AreNamings resolved (shown_types resolved) l.namings → is_valid_key_of resolved l.key ≡ true →
    l.subtypes.items ≡ flat_map (subtypes_of resolved) (take l.base-index l.base-items)
