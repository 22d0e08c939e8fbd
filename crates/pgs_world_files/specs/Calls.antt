-- What the calls of the system answered, and what an open file of a store rests on.
use Rattle.std.specs.Prelude.{◌≡◌, ◌≢◌, ◌⊎◌, ℕ, ◌≤◌, ◌==◌, Bool, true, false, not, ◌&&◌, List, take, min, Option, Some, None, Result, Ok, Err, ⊤}
use Rattle.std.specs.Fs.{asks_read, asks_write, asks_append, asks_truncate, asks_create, asks_create_new}
use Rattle.std.specs.Option.{unwrap_or}
use Rattle.std.specs.Path.{path_parent}
use Rattle.std.specs.declared.fs.locks.TryLockError.{TryLockError}
use Rattle.std.specs.declared.fs.options.OpenOptions.{OpenOptions}
use Rattle.std.specs.declared.io.Error.{Error}
use Rattle.pgs_world_files.specs.declared.access.Access.{Access}
use Rattle.pgs_world_files.specs.declared.access.Access.TheVariants.{Read, ReadBeside, ReadUnlocked, Append, Make}
use Rattle.pgs_world_files.specs.declared.found.Found.{Found}
use Rattle.pgs_world_files.specs.declared.mode.Mode.{Mode}
use Rattle.pgs_world_files.specs.declared.mode.Mode.TheVariants.{ToWrite, ToRead, Beside}
use Rattle.pgs_world_files.specs.Access.{is_beside}
use Rattle.pgs_world_files.specs.Causes.{IsUnsupported}
use Rattle.pgs_world_files.specs.Head.{is_of_others}

-- Each fact is one answer: a call on an open file names it before, and after where the call changes what may be asked of it. An answer
-- without an error is None.
pub record Facts (F : Type 0) : Type 1 where
  -- what an open of a name by these options gave
  pub opened : OpenOptions → List ℕ → Result F Error → Type 0
  -- which file a name is of, asked at any time; and asked behind what was done with an open file
  pub there : List ℕ → Result Found Error → Type 0
  pub named : F → List ℕ → Result Found Error → Type 0
  -- the name without links on its way
  pub real : List ℕ → Result (List ℕ) Error → Type 0
  -- which file an open one is, and whether its number is above those of the standard streams
  pub found : F → Result Found Error → Type 0
  pub above : F → Bool → Type 0
  -- the lock against everybody was asked for, or the one beside readers
  pub alone : F → Option TryLockError → F → Type 0
  pub shared : F → Option TryLockError → F → Type 0
  -- a sync of a folder
  pub folder : F → Option Error → Type 0
  -- a read of the first bytes: the buffer after it, and the answer
  pub head : F → List ℕ → Result ℕ Error → Type 0
  -- a question for the length, a read and a write at a place, a cut to a length and whether it succeeded, a sync
  pub length : F → Result ℕ Error → F → Type 0
  pub read : F → ℕ → List ℕ → Result ℕ Error → F → Type 0
  pub write : F → ℕ → List ℕ → Result ℕ Error → F → Type 0
  pub cut : F → ℕ → Bool → F → Type 0
  pub sync : F → Option Error → F → Type 0

-- a system of which nothing is said
abbrev pub no_facts : {F : Type 0} → Facts F
no_facts = record {
  opened = λ _ _ _. ⊤;
  there = λ _ _. ⊤;
  named = λ _ _ _. ⊤;
  real = λ _ _. ⊤;
  found = λ _ _. ⊤;
  above = λ _ _. ⊤;
  alone = λ _ _ _. ⊤;
  shared = λ _ _ _. ⊤;
  folder = λ _ _. ⊤;
  head = λ _ _ _. ⊤;
  length = λ _ _ _. ⊤;
  read = λ _ _ _ _ _. ⊤;
  write = λ _ _ _ _ _. ⊤;
  cut = λ _ _ _ _. ⊤;
  sync = λ _ _ _. ⊤;
}

-- two answers are of one file, which has a name
abbrev pub is_same : Found → Found → Bool
is_same one other = one.has_name && other.has_name && one.device == other.device && one.number == other.number

-- an open file was found to be this one, and then so was the file of a name
abbrev pub IsNamed : {F : Type 0} → Facts F → List ℕ → F → Found → Type 0
IsNamed facts name file this = facts.found file (Ok this) × ((there : Found) × facts.named file name (Ok there) × (is_same this there ≡ true))

-- a question failed, or the file of the name is another
abbrev pub IsLost : {F : Type 0} → Facts F → List ℕ → F → Type 0
IsLost facts name file =
    ((error : Error) × facts.found file (Err error))
    ⊎ (((error : Error) × facts.named file name (Err error))
    ⊎ ((this : Found) × (there : Found) × facts.found file (Ok this) × facts.named file name (Ok there) × (is_same this there ≡ false)))

-- Whether the file of a name was found to be this one, which the system told before, with so many bytes; else the question failed, or it is
-- another, or of another length.
abbrev pub NameStands : {F : Type 0} → Facts F → List ℕ → Found → ℕ → F → Bool → Type 0
NameStands facts name this len file true =
    (there : Found) × facts.named file name (Ok there) × (is_same this there ≡ true) × (there.len ≡ len)
NameStands facts name this len file false =
    ((error : Error) × facts.named file name (Err error))
    ⊎ ((there : Found) × facts.named file name (Ok there) × ((is_same this there ≡ false) ⊎ (there.len ≢ len)))

-- what stands before the last slash of a name
abbrev pub folder_of : List ℕ → List ℕ
folder_of name = unwrap_or (path_parent name) name

-- nothing of a file that is there is taken away, nor is it asked to be new
pub record KeepsBytes (how : OpenOptions) : Type 0 where
  pub no_truncate : asks_truncate how ≡ false
  pub no_new : asks_create_new how ≡ false

-- to read, and to write unless it is open for reading alone; at places, not behind the end
pub record AsksToPlace (how : OpenOptions) (reads_only : Bool) : Type 0 where
  pub keeps : KeepsBytes how
  pub read : asks_read how ≡ true
  pub write : asks_write how ≡ not reads_only
  pub no_append : asks_append how ≡ false

-- behind the end
pub record AsksToAppend (how : OpenOptions) : Type 0 where
  pub keeps : KeepsBytes how
  pub append : asks_append how ≡ true
  pub create : asks_create how ≡ true

-- it is open for reading alone
abbrev pub reads_only : Mode → Bool
reads_only ToWrite = false
reads_only mode = true

-- Beside a run that writes a file is open for that; a reader's other files may be open for reading alone; all others are open to be written.
abbrev pub IsModeFor : Access → Mode → Type 0
IsModeFor access Beside = is_beside access ≡ true
IsModeFor access ToRead = access ≡ Read
IsModeFor access ToWrite = is_beside access ≡ false

-- it was opened for an access so that nothing of it was lost
pub record IsOpenedBy {F : Type 0} (facts : Facts F) (name : List ℕ) (access : Access) (file : F) (mode : Mode) : Type 0 where
  pub how : OpenOptions
  pub opened : facts.opened how name (Ok file)
  pub asks : AsksToPlace how (reads_only mode)
  pub fits : IsModeFor access mode

-- The lock of an access was asked for: readers share it, also with a run that appends, and others have it alone. Beside a run that has the
-- lock a reader asks for none.
abbrev pub LockIs : {F : Type 0} → Facts F → Access → F → Option TryLockError → F → Type 0
LockIs facts Read old answer new = facts.shared old answer new
LockIs facts ReadBeside old answer new = facts.shared old answer new
LockIs facts ReadUnlocked old answer new = (answer ≡ None) × (new ≡ old)
LockIs facts Append old answer new = facts.shared old answer new
LockIs facts access old answer new = facts.alone old answer new

-- The folder in which the file of a name really lies was opened and synced, or the system syncs no folder there.
pub record IsFolderSynced {F : Type 0} (facts : Facts F) (name : List ℕ) : Type 0 where
  pub real : List ℕ
  pub is_real : facts.real name (Ok real)
  pub how : OpenOptions
  pub folder : F
  pub opened : facts.opened how (folder_of real) (Ok folder)
  pub synced : facts.folder folder None ⊎ ((error : Error) × facts.folder folder (Some error) × IsUnsupported error)

-- its first bytes were read, as many as it has, up to 13; and aren't something else's
pub record HoldsNoOthers {F : Type 0} (facts : Facts F) (file : F) : Type 0 where
  pub now : Found
  pub found : facts.found file (Ok now)
  pub buf : List ℕ
  pub count : ℕ
  pub head : facts.head file buf (Ok count)
  pub all : min now.len 13 ≤ count
  pub free : is_of_others now.len (take count buf) ≡ false

-- The file of a name, open for an access: opened so that nothing of it was lost, under a number above those of the standard streams, a
-- regular file, locked, then found to be this one, still that of its name; its folder synced, but not beside a run that writes; and where a
-- store is made, no file of something else.
pub record IsOpenFor {F : Type 0} (facts : Facts F) (name : List ℕ) (access : Access) (file : F) (mode : Mode) (this : Found) : Type 0 where
  pub start : F
  pub opened : IsOpenedBy facts name access start mode
  pub above : facts.above start true
  pub regular : (found : Found) × facts.found start (Ok found) × (found.is_regular ≡ true)
  pub locked : LockIs facts access start None file
  pub named : IsNamed facts name file this
  pub folder : is_beside access ≡ false → IsFolderSynced facts name
  pub free : access ≡ Make → HoldsNoOthers facts file

-- The file of a name, open behind its end.
pub record IsOpenBehind {F : Type 0} (facts : Facts F) (name : List ℕ) (file : F) : Type 0 where
  pub how : OpenOptions
  pub opened : facts.opened how name (Ok file)
  pub asks : AsksToAppend how
  pub above : facts.above file true

-- Whether a sync succeeded. A file that is open for reading alone may lie where the system knows no sync: nothing can have been written
-- there, and that is no fault. Beside a run that writes nothing is asked.
abbrev pub AnswersSync : {F : Type 0} → Facts F → Mode → F → Bool → F → Type 0
AnswersSync facts Beside old succeeds new = (succeeds ≡ true) × (new ≡ old)
AnswersSync facts ToRead old true new = facts.sync old None new ⊎ ((error : Error) × facts.sync old (Some error) new × IsUnsupported error)
AnswersSync facts ToWrite old true new = facts.sync old None new
AnswersSync facts mode old false new = (error : Error) × facts.sync old (Some error) new

-- Whether the file still was the one of its name, and of this length. Beside a run that writes that isn't asked.
abbrev pub AnswersName : {F : Type 0} → Facts F → Mode → List ℕ → Found → ℕ → F → Bool → Type 0
AnswersName facts Beside name this len file succeeds = succeeds ≡ true
AnswersName facts mode name this len file succeeds = NameStands facts name this len file succeeds
