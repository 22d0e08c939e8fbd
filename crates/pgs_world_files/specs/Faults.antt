-- Why a file isn't opened, by what the system answered.
use Rattle.std.specs.Prelude.{◌≡◌, ◌⊎◌, ℕ, ◌<◌, Bool, true, false, List, [], ◌∷◌, ◌++◌, take, min, Option, Some, None, Result, Ok, Err, ⊤}
use Rattle.std.specs.Fs.{asks_write, asks_create}
use Rattle.std.specs.List.{list_any}
use Rattle.std.specs.declared.fs.locks.TryLockError.{TryLockError}
use Rattle.std.specs.declared.fs.locks.TryLockError.TheVariants as lock
use Rattle.std.specs.declared.fs.options.OpenOptions.{OpenOptions}
use Rattle.std.specs.IoError.{error_kind}
use Rattle.std.specs.declared.io.Error.{Error}
use Rattle.std.specs.declared.io.ErrorKind.TheVariants.{NotFound, PermissionDenied}
use Rattle.pgs_world_files.specs.declared.access.Access.{Access}
use Rattle.pgs_world_files.specs.declared.access.Access.TheVariants.{Read, Make}
use Rattle.pgs_world_files.specs.declared.cause.FileCause.{FileCause}
use Rattle.pgs_world_files.specs.declared.cause.FileCause.TheVariants.{Locked, NotRegular, Others, Replaced, Changed, Twice, StandardNumber, Short, Long, TooManyOpen, NoLocks, FolderDenied, Call}
use Rattle.pgs_world_files.specs.declared.cause.OpenFault.{OpenFault}
use Rattle.pgs_world_files.specs.declared.cause.OpenFault.TheVariants as fault
use Rattle.pgs_world_files.specs.declared.found.Found.{Found}
use Rattle.pgs_world_files.specs.Access.{is_beside}
use Rattle.pgs_world_files.specs.Calls.{Facts, IsLost, LockIs, folder_of, is_same}
use Rattle.pgs_world_files.specs.Causes.{IsLockless, IsOfCall, IsOfError, IsUnsupported}
use Rattle.pgs_world_files.specs.Head.{is_of_others}

-- An open that is the last that is tried: a file to be read is tried for reading alone too, if it is there.
abbrev pub IsLastTry : Access → OpenOptions → Type 0
IsLastTry Read how = (asks_write how ≡ false) ⊎ (asks_create how ≡ true)
IsLastTry access how = ⊤

-- a call on the way gave this error, or the name was found to have another file
pub data HasFailed {F : Type 0} (facts : Facts F) (name : List ℕ) (access : Access) : Error → Type 0 where
  at_open : {how : OpenOptions} {error : Error} → facts.opened how name (Err error) → IsLastTry access how → HasFailed facts name access error
  at_find : {error : Error} → facts.there name (Err error) → (error_kind error ≡ NotFound → is_beside access ≡ true)
      → HasFailed facts name access error
  at_found : {file : F} {error : Error} → facts.found file (Err error) → HasFailed facts name access error
  at_name : (file : F) {error : Error} → IsLost facts name file → HasFailed facts name access error
  at_lock : (old new : F) (error : Error) → LockIs facts access old (Some (lock.Error error)) new → HasFailed facts name access error
  at_real : {error : Error} → facts.real name (Err error) → HasFailed facts name access error
  at_folder : {how : OpenOptions} {real : List ℕ} {error : Error} → facts.real name (Ok real) → facts.opened how (folder_of real) (Err error)
      → HasFailed facts name access error
  at_sync : {folder : F} {error : Error} → facts.folder folder (Some error) → (IsUnsupported error → ⊥) → HasFailed facts name access error
  at_head : {file : F} {buf : List ℕ} {error : Error} → facts.head file buf (Err error) → HasFailed facts name access error

-- the cause of an error that a call on the way gave
abbrev pub IsOfFailed : {F : Type 0} → Facts F → List ℕ → Access → FileCause → Type 0
IsOfFailed facts name access cause = (error : Error) × HasFailed facts name access error × IsOfCall error cause

-- one of those that are open is the same file
abbrev pub is_open : List Found → Found → Bool
is_open opened found = list_any (λ other. is_same other found) opened

-- a cause, and the fact behind it
abbrev pub IsCause : {F : Type 0} → Facts F → List Found → List ℕ → Access → FileCause → Type 0
IsCause {F} facts opened name access Locked = (old : F) × (new : F) × LockIs facts access old (Some lock.WouldBlock) new
IsCause {F} facts opened name access NotRegular =
    (found : Found) × (facts.there name (Ok found) ⊎ ((file : F) × facts.found file (Ok found))) × (found.is_regular ≡ false)
IsCause {F} facts opened name access Others =
    (access ≡ Make) × (file : F) × (found : Found) × (buf : List ℕ) × (count : ℕ) × facts.found file (Ok found) × facts.head file buf (Ok count) × (is_of_others found.len (take count buf) ≡ true)
IsCause {F} facts opened name access Replaced = IsOfFailed facts name access Replaced
IsCause {F} facts opened name access Changed = IsOfFailed facts name access Changed
IsCause {F} facts opened name access Twice = (file : F) × (found : Found) × facts.found file (Ok found) × (is_open opened found ≡ true)
IsCause {F} facts opened name access StandardNumber = (file : F) × facts.above file false
IsCause {F} facts opened name access Short =
    (access ≡ Make) × (file : F) × (found : Found) × (buf : List ℕ) × (count : ℕ) × facts.found file (Ok found) × facts.head file buf (Ok count) × (count < min found.len 13)
IsCause {F} facts opened name access Long = ⊥
IsCause {F} facts opened name access TooManyOpen = IsOfFailed facts name access TooManyOpen
IsCause {F} facts opened name access NoLocks =
    (old : F) × (new : F) × (error : Error) × LockIs facts access old (Some (lock.Error error)) new × IsLockless error
IsCause {F} facts opened name access FolderDenied =
    (how : OpenOptions) × (real : List ℕ) × (error : Error) × facts.real name (Ok real) × facts.opened how (folder_of real) (Err error) × (error_kind error ≡ PermissionDenied)
IsCause {F} facts opened name access (Call cause) = IsOfFailed facts name access (Call cause)

-- the same of a fault; want of memory is free
abbrev pub IsFault : {F : Type 0} → Facts F → List Found → List ℕ → Access → OpenFault → Type 0
IsFault facts opened name access (fault.File cause) = IsCause facts opened name access cause
IsFault facts opened name access fault.Memory = ⊤

-- a fault that a lock which wasn't taken makes
abbrev pub IsLockFault : TryLockError → OpenFault → Type 0
IsLockFault lock.WouldBlock made = made ≡ fault.File Locked
IsLockFault (lock.Error error) made = ((made ≡ fault.File NoLocks) × IsLockless error) ⊎ ((IsLockless error → ⊥) × IsOfError error made)

-- a lock was asked for: it was taken, or the answer made this fault
abbrev pub LockAnswers : {F A : Type 0} → (F → Option TryLockError → F → Type 0) → F → Result A OpenFault → F → Type 0
LockAnswers gives old (Ok _) new = gives old None new
LockAnswers gives old (Err made) new = (error : TryLockError) × gives old (Some error) new × IsLockFault error made

-- an open file is none of those that were open, and now is one of them
abbrev pub IsNew : {F : Type 0} → Facts F → List Found → F → List Found → Type 0
IsNew facts old file new = (found : Found) × facts.found file (Ok found) × (is_open old found ≡ false) × (new ≡ old ++ found ∷ [])

-- the same of a file that was locked then
abbrev pub IsOwn : {F : Type 0} → Facts F → Access → List Found → F → List Found → Type 0
IsOwn {F} facts access old file new = (start : F) × LockIs facts access start None file × IsNew facts old start new
