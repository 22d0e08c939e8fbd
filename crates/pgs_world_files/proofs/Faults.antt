-- The fault that an error of a call makes has its cause.
use Rattle.std.proofs.Common.{◌≡◌, ℕ, true, false, List, [], Some, Result, Ok, Err, IfErr, IsErrAnd, inr, inl, refl, sym, subst}
use Rattle.std.proofs.lemmas.Bool.{false≢true}
use Rattle.std.specs.Fs.{asks_write, asks_create}
use Rattle.std.specs.declared.fs.locks.TryLockError.{TryLockError}
use Rattle.std.specs.declared.fs.locks.TryLockError.TheVariants as lock
use Rattle.std.specs.declared.fs.options.OpenOptions.{OpenOptions}
use Rattle.std.specs.declared.io.Error.{Error}
use Rattle.pgs_world_files.specs.declared.access.Access.{Access}
use Rattle.pgs_world_files.specs.declared.access.Access.TheVariants.{Read, ReadBeside, ReadUnlocked, Write, Append, Make}
use Rattle.pgs_world_files.specs.declared.cause.FileCause.TheVariants.{Locked, NotRegular, Others, Replaced, Changed, Twice, StandardNumber, Short, Long, TooManyOpen, NoLocks, FolderDenied, Call}
use Rattle.pgs_world_files.specs.declared.cause.OpenFault.{OpenFault}
use Rattle.pgs_world_files.specs.declared.cause.OpenFault.TheVariants as fault
use Rattle.pgs_world_files.specs.declared.found.Found.{Found}
use Rattle.pgs_world_files.specs.Calls.{Facts, LockIs, folder_of}
use Rattle.pgs_world_files.specs.Causes.{IsFolderFault, IsOfError}
use Rattle.pgs_world_files.specs.Faults.{HasFailed, IsFault, IsLastTry, IsLockFault}
use Rattle.pgs_world_files.specs.Faults.HasFailed.{at_folder, at_lock}

-- what is said of an error that is handed on
pub if_err : {A E : Type 0} {Q : E → Type 0} (P : E → Type 0) (r : Result A E) → IsErrAnd r Q → ((made : E) → Q made → P made) → IfErr r P
if_err P (Ok done) is to = absurd is
if_err P (Err made) is to = to made is

-- the last open that is tried
pub last_make : (access : Access) (how : OpenOptions) → asks_create how ≡ true → IsLastTry access how
last_make Read how is = inr is
last_make ReadBeside how is = tt
last_make ReadUnlocked how is = tt
last_make Write how is = tt
last_make Append how is = tt
last_make Make how is = tt

pub last_read : (access : Access) (how : OpenOptions) → asks_write how ≡ false → IsLastTry access how
last_read Read how is = inl is
last_read ReadBeside how is = tt
last_read ReadUnlocked how is = tt
last_read Write how is = tt
last_read Append how is = tt
last_read Make how is = tt

pub last_other : (access : Access) (how : OpenOptions) → (access ≡ Read → ⊥) → IsLastTry access how
last_other Read how not = absurd (not refl)
last_other ReadBeside how not = tt
last_other ReadUnlocked how not = tt
last_other Write how not = tt
last_other Append how not = tt
last_other Make how not = tt

module _ {F : Type 0} (facts : Facts F) (name : List ℕ) (access : Access) where
  pub failed : {error : Error} (opened : List Found) (made : OpenFault) → IsOfError error made → HasFailed facts name access error → IsFault facts opened name access made
  failed opened fault.Memory of has = tt
  failed opened (fault.File Locked) of has = absurd of.1
  failed opened (fault.File NotRegular) of has = absurd of.1
  failed opened (fault.File Others) of has = absurd of.1
  failed opened (fault.File Replaced) of has = (_, has, of.1)
  failed opened (fault.File Changed) of has = (_, has, of.1)
  failed opened (fault.File Twice) of has = absurd of.1
  failed opened (fault.File StandardNumber) of has = absurd of.1
  failed opened (fault.File Short) of has = absurd of.1
  failed opened (fault.File Long) of has = absurd of.1
  failed opened (fault.File TooManyOpen) of has = (_, has, of.1)
  failed opened (fault.File NoLocks) of has = absurd of.1
  failed opened (fault.File FolderDenied) of has = absurd of.1
  failed opened (fault.File (Call cause)) of has = (_, has, of.1)

  -- what isn't about the files that are open holds beside any of them
  pub widened : (opened : List Found) (made : OpenFault) → IsFault facts [] name access made → IsFault facts opened name access made
  widened opened fault.Memory is = tt
  widened opened (fault.File Locked) is = is
  widened opened (fault.File NotRegular) is = is
  widened opened (fault.File Others) is = is
  widened opened (fault.File Replaced) is = is
  widened opened (fault.File Changed) is = is
  widened opened (fault.File Twice) is = absurd (false≢true is.3)
  widened opened (fault.File StandardNumber) is = is
  widened opened (fault.File Short) is = is
  widened opened (fault.File Long) is = absurd is
  widened opened (fault.File TooManyOpen) is = is
  widened opened (fault.File NoLocks) is = is
  widened opened (fault.File FolderDenied) is = is
  widened opened (fault.File (Call cause)) is = is

  pub not_locked : (opened : List Found) (made : OpenFault) (old new : F) → (error : TryLockError) × LockIs facts access old (Some error) new × IsLockFault error made → IsFault facts opened name access made
  not_locked opened made old new (lock.WouldBlock, gave, is) = subst (λ m. IsFault facts opened name access m) (sym is) (old, new, gave)
  not_locked opened made old new (lock.Error error, gave, inl is) = subst (λ m. IsFault facts opened name access m) (sym is.0) (old, new, error, gave, is.1)
  not_locked opened made old new (lock.Error error, gave, inr is) = failed opened made is.1 (at_lock old new error gave)

  -- a folder that wasn't opened
  pub folder_failed : (opened : List Found) (real : List ℕ) (how : OpenOptions) (error : Error) (made : OpenFault) → facts.real name (Ok real) → facts.opened how (folder_of real) (Err error) → IsFolderFault error made → IsFault facts opened name access made
  folder_failed opened real how error made is_real gave (inl is) = subst (λ m. IsFault facts opened name access m) (sym is.0) (how, real, error, is_real, gave, is.1)
  folder_failed opened real how error made is_real gave (inr is) = failed opened made is.1 (at_folder is_real gave)
