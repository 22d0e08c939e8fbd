-- What a call on an area in a file answers, by what its handle gave.
use Rattle.std.specs.Prelude.{◌≡◌, ◌⊎◌, ℕ, ◌+◌, ◌-◌, ◌^◌, ◌<◌, ◌≤◌, true, false, List, length}
use Rattle.std.specs.Prelude.{Option, Some, None, Result, Ok, Err, IsErr}
use Rattle.std.specs.declared.io.Error.{Error}
use Rattle.pgs_world.specs.declared.area.Area.{Area}
use Rattle.pgs_world.specs.declared.area.Area.TheVariants.{A, B}
use Rattle.pgs_world.specs.declared.area_limit.TheConstants.{AREA_LIMIT}
use Rattle.pgs_world_files.specs.declared.area_files.AreaFiles.{AreaFiles}
use Rattle.pgs_world_streams.specs.Given.{PlacedCall, BareCall}
use Rattle.pgs_world_streams.specs.Whole.{HasRead, HasWritten, HasFailedToRead, HasFailedToWrite}

-- the length that was given, of at most 2^40 bytes; a fault where none was given, or a greater one
abbrev pub LengthIs : {H F : Type 0} → (H → Result ℕ Error → H → Type 0) → H → Result ℕ F → H → Type 0
LengthIs gives old (Ok count) new = gives old (Ok count) new × (count ≤ AREA_LIMIT)
LengthIs gives old (Err _) new =
    ((count : ℕ) × gives old (Ok count) new × (AREA_LIMIT < count)) ⊎ ((error : Error) × gives old (Err error) new)

-- the whole buffer was read; a fault where it reaches past 2^40, and else after a front of it, where the next read failed
abbrev pub ReadIs : {H A F : Type 0} → PlacedCall H → H → ℕ → List ℕ → Result A F → H → Type 0
ReadIs gives old at buf (Ok _) new = HasRead gives old at buf new
ReadIs gives old at buf (Err _) new =
    ((AREA_LIMIT < at + length buf) × (new ≡ old)) ⊎ HasFailedToRead gives old at buf new

-- all bytes were written; a fault where they reach past 2^40, and else after a front of them, where the next write failed
abbrev pub WriteIs : {H A F : Type 0} → PlacedCall H → H → ℕ → List ℕ → Result A F → H → Type 0
WriteIs gives old at bytes (Ok _) new = (at + length bytes ≤ AREA_LIMIT) × HasWritten gives old at bytes (length bytes) new
WriteIs gives old at bytes (Err _) new =
    ((AREA_LIMIT < at + length bytes) × (new ≡ old)) ⊎ HasFailedToWrite gives old at bytes new

-- one call, and its answer
abbrev pub CallIs : {H A F : Type 0} → BareCall H → H → Result A F → H → Type 0
CallIs gives old (Ok _) new = gives old true new
CallIs gives old (Err _) new = gives old false new

-- what the handle answers; with no handle, a fault
abbrev pub IfOpen : {H A F : Type 0} → (H → Result A F → H → Type 0) → Option H → Result A F → Option H → Type 0
IfOpen gives (Some old) answer (Some new) = gives old answer new
IfOpen gives (Some old) answer None = ⊥
IfOpen gives None (Ok _) new = ⊥
IfOpen gives None (Err _) new = new ≡ None

-- The same of a call that begins at a moment. At the last that a u64 can name it is a fault, and nothing is called.
abbrev pub AtMoment : {H A F : Type 0} → ℕ → (H → Result A F → H → Type 0) → Option H → Result A F → Option H → Type 0
AtMoment moment gives old answer new = IfOpen gives old answer new ⊎ ((moment ≡ 2 ^ 64 - 1) × (new ≡ old) × IsErr answer)

-- the handle of this area
abbrev pub handle_in : {H : Type 0} → Area → AreaFiles H → Option H
handle_in A areas = areas.a.handle
handle_in B areas = areas.b.handle
