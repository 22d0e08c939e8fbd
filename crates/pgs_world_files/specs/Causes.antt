-- Which cause an error of a call is told as, and why a call on an area failed.
use Rattle.std.specs.Prelude.{◌≡◌, ◌≢◌, ◌⊎◌, ℕ, ◌+◌, ◌<◌, pos, false, List, length, Option, Some, None, Result, Ok, Err}
use Rattle.std.specs.IoError.{error_kind, raw_os_error}
use Rattle.std.specs.declared.io.Error.{Error}
use Rattle.std.specs.declared.io.ErrorKind.TheVariants.{InvalidData, InvalidInput, OutOfMemory, PermissionDenied, StaleNetworkFileHandle, Unsupported}
use Rattle.pgs_world.specs.declared.area_limit.TheConstants.{AREA_LIMIT}
use Rattle.pgs_world_files.specs.declared.cause.FileCause.{FileCause}
use Rattle.pgs_world_files.specs.declared.cause.FileCause.TheVariants.{Replaced, Changed, TooManyOpen, FolderDenied, Short, Long, Call}
use Rattle.pgs_world_files.specs.declared.cause.OpenFault.{OpenFault}
use Rattle.pgs_world_files.specs.declared.cause.OpenFault.TheVariants as fault
use Rattle.pgs_world_streams.specs.Given.{PlacedCall, BareCall}
use Rattle.pgs_world_streams.specs.Tries.{ReadIsTried, WriteIsTried}
use Rattle.pgs_world_streams.specs.declared.cause.Cause.TheVariants.{NoSpace}

-- the number of an error of the system, EMFILE or ENFILE: the run, or the system, has as many files open as it may
abbrev pub IsTooMany : Error → Type 0
IsTooMany error = (raw_os_error error ≡ Some (pos 24)) ⊎ (raw_os_error error ≡ Some (pos 23))

-- the system says that it can't do this here at all
abbrev pub IsUnsupported : Error → Type 0
IsUnsupported error = (error_kind error ≡ InvalidInput) ⊎ (error_kind error ≡ Unsupported)

-- the file system has no locks: ENOLCK, or it can't do this at all
abbrev pub IsLockless : Error → Type 0
IsLockless error = (raw_os_error error ≡ Some (pos 37)) ⊎ IsUnsupported error

-- The cause that an error of a call is told as. Two kinds are those of a name that has another file, and of a file that was changed.
abbrev pub IsOfCall : Error → FileCause → Type 0
IsOfCall error Replaced = error_kind error ≡ StaleNetworkFileHandle
IsOfCall error Changed = error_kind error ≡ InvalidData
IsOfCall error TooManyOpen = IsTooMany error
IsOfCall error (Call cause) =
    (error_kind error ≢ StaleNetworkFileHandle) × (error_kind error ≢ InvalidData) × (IsTooMany error → ⊥)
IsOfCall error cause = ⊥

-- the same as a fault: want of memory, or that cause
abbrev pub IsOfError : Error → OpenFault → Type 0
IsOfError error fault.Memory = error_kind error ≡ OutOfMemory
IsOfError error (fault.File cause) = (error_kind error ≢ OutOfMemory) × IsOfCall error cause

-- the same of an open of the folder, which may be missing the right to read it alone
abbrev pub IsFolderFault : Error → OpenFault → Type 0
IsFolderFault error made =
    ((made ≡ fault.File FolderDenied) × (error_kind error ≡ PermissionDenied)) ⊎ ((error_kind error ≢ PermissionDenied) × IsOfError error made)

-- the cause of a read or a write that failed: its error's, or where there was no byte, this one
abbrev pub IsOfFailure : FileCause → Result ℕ Error → FileCause → Type 0
IsOfFailure none (Ok count) cause = (count ≡ 0) × (cause ≡ none)
IsOfFailure none (Err error) cause = IsOfCall error cause

-- why no length was given
abbrev pub LengthFails : {H : Type 0} → (H → Result ℕ Error → H → Type 0) → H → FileCause → H → Type 0
LengthFails gives old cause new =
    ((cause ≡ Long) × (count : ℕ) × gives old (Ok count) new × (AREA_LIMIT < count))
    ⊎ ((error : Error) × gives old (Err error) new × IsOfCall error cause)

-- why not the whole buffer was read: by the answer of the last read, which left the handle so
abbrev pub ReadFails : {H : Type 0} → PlacedCall H → H → ℕ → List ℕ → FileCause → H → Type 0
ReadFails {H} gives old at buf cause new =
    ((cause ≡ Long) × (AREA_LIMIT < at + length buf) × (new ≡ old))
    ⊎ ((before : H) × (place : ℕ) × (left : List ℕ) × (answer : Result ℕ Error) × ReadIsTried gives before place left answer new × IsOfFailure Short answer cause)

-- why not all bytes were written, by the answer of the last write
abbrev pub WriteFails : {H : Type 0} → PlacedCall H → H → ℕ → List ℕ → FileCause → H → Type 0
WriteFails {H} gives old at bytes cause new =
    ((cause ≡ Long) × (AREA_LIMIT < at + length bytes) × (new ≡ old))
    ⊎ ((before : H) × (place : ℕ) × (left : List ℕ) × (answer : Result ℕ Error) × WriteIsTried gives before place left answer new × IsOfFailure (Call NoSpace) answer cause)

-- why a call that answers nothing failed
abbrev pub CallFails : {H : Type 0} → BareCall H → H → FileCause → H → Type 0
CallFails gives old cause new = gives old false new × (error : Error) × IsOfCall error cause

-- the cause that is kept behind a fault; with no file it stays
abbrev pub IsKept : {H : Type 0} → (H → FileCause → H → Type 0) → Option H → Option FileCause → Option FileCause → Option H → Type 0
IsKept fails (Some old) before (Some cause) (Some new) = fails old cause new
IsKept fails (Some old) before kept new = ⊥
IsKept fails None before kept new = kept ≡ before
