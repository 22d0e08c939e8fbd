-- When a step from one schema to another is safe: no graph has to be looked at.
use Rattle.std.specs.Prelude.{◌≡◌, Bool, ◌&&◌, ◌||◌, not, map}
use Rattle.pgs_syntax.specs.declared.resolved.Resolved.{Resolved}
use Rattle.pgs_schema_changes.specs.AsksNoMore.{are_keys_kept, is_kept, is_dropped}
use Rattle.pgs_schema_changes.specs.declared.changes.KeyChanges.{KeyChanges}

-- whether the new guard is strict and the old one isn't
abbrev pub asks_strict : Resolved → Resolved → Bool
asks_strict old new = new.guard.strict && not old.guard.strict

-- whether each key is kept, and the new guard is loose, or both are strict and each type of the old one is contained, which is given
abbrev pub is_safe : Resolved → Resolved → Bool → Bool
is_safe old new contained = are_keys_kept old new && (not new.guard.strict || (old.guard.strict && contained))

-- what becomes of the keys of both guards
pub record IsOfKeys (old new : Resolved) (changes : KeyChanges) : Type 0 where
  pub kept : changes.kept ≡ map (is_kept old new) new.guard.keys
  pub dropped : changes.dropped ≡ map (is_dropped old new) old.guard.keys
