-- What a name gave, of the system's files.
use Rattle.std.specs.Prelude.{◌≡◌, ◌≢◌, ◌⊎◌, ℕ, false, true, List, Option, Some, None, Ok, Err, string_bytes}
use Rattle.pgs_world_files.specs.declared.access.Access.{Access}
use Rattle.pgs_world_files.specs.declared.area_file.AreaFile.{AreaFile}
use Rattle.pgs_world_files.specs.declared.file_feed.FileFeed.{FileFeed}
use Rattle.pgs_world_files.specs.declared.store_file.StoreFile.{StoreFile}
use Rattle.pgs_world_files.specs.declared.system_file.SystemFile.{SystemFile}
use Rattle.std.specs.declared.fs.options.OpenOptions.{OpenOptions}
use Rattle.std.specs.declared.io.Error.{Error}
use Rattle.pgs_world_files.specs.declared.cause.FileCause.{FileCause}
use Rattle.pgs_world_files.specs.declared.feed_cause.FeedCause.{FeedCause}
use Rattle.pgs_world_files.specs.declared.found.Found.{Found}
use Rattle.pgs_world_files.specs.declared.mode.Mode.TheVariants.{ToRead}
use Rattle.pgs_world_files.specs.Calls.{AsksToPlace, Facts, IsOpenFor, is_same}
use Rattle.pgs_world_files.specs.Faults.{IsCause, IsNew, IsOwn}
use Rattle.pgs_world_files.specs.FeedCalls.{IsOpenFeed}
use Rattle.pgs_world_files.specs.FeedFaults.{HasFeedCause}

-- there is a cause, and the fact behind it
abbrev pub HasCause : {F : Type 0} → Facts F → List Found → List ℕ → Access → Option FileCause → Type 0
HasCause facts opened name access (Some cause) = IsCause facts opened name access cause
HasCause facts opened name access None = ⊥

-- the file of this name, open for this access, and as long as the system said behind its lock
abbrev pub IsSystemFile : {S F : Type 0} → Facts F → List ℕ → Access → StoreFile (SystemFile S F) → Type 0
IsSystemFile facts name access store =
    (string_bytes store.file.name ≡ name) × IsOpenFor facts name access store.file.file store.file.mode store.file.this × (store.known ≡ store.file.this.len)

-- an area in the file of this name, open for this access; or in none, and then there is a cause
abbrev pub IsAreaOf : {S F : Type 0} → Facts F → List Found → List ℕ → Access → Option (StoreFile (SystemFile S F)) → Option FileCause → Type 0
IsAreaOf facts opened name access (Some store) cause = IsSystemFile facts name access store
IsAreaOf facts opened name access None cause = HasCause facts opened name access cause

abbrev pub IsSystemArea : {S F : Type 0} → Facts F → List ℕ → Access → AreaFile (StoreFile (SystemFile S F)) → Type 0
IsSystemArea facts name access area = (opened : List Found) × IsAreaOf facts opened name access area.handle area.cause

-- Of the files that are open: an opened one is none of them, and then one of them. Where none was opened they stay, and the cause is one
-- beside them.
abbrev pub IsAdmitted : {S F : Type 0} → Facts F → List Found → List ℕ → Access → Option (StoreFile (SystemFile S F)) → Option FileCause → List Found → Type 0
IsAdmitted facts old name access (Some store) cause new = IsOwn facts access old store.file.file new
IsAdmitted facts old name access None cause new = (new ≡ old) × HasCause facts old name access cause

-- a feed into the file of this name, open behind its end, of which this is the last line's number; or into none, and then there is a cause
abbrev pub IsFeedOf : {F : Type 0} → Facts F → List Found → List ℕ → Option F → Option ℕ → Option FeedCause → Type 0
IsFeedOf facts opened name (Some file) last cause = IsOpenFeed facts name file last
IsFeedOf facts opened name None last cause = HasFeedCause facts opened name cause

abbrev pub IsSystemFeed : {F : Type 0} → Facts F → List ℕ → FileFeed F → Type 0
IsSystemFeed facts name feed = (opened : List Found) × IsFeedOf facts opened name feed.writer feed.last feed.cause

-- the same of a feed among the files that are open
abbrev pub IsFeedAdmitted : {F : Type 0} → Facts F → List Found → List ℕ → Option F → Option FeedCause → List Found → Type 0
IsFeedAdmitted facts old name (Some file) cause new = IsNew facts old file new
IsFeedAdmitted facts old name None cause new = (new ≡ old) × HasFeedCause facts old name cause

-- The file of a name, opened once more to be written at places without loss, under a number above those of the standard streams, and found to
-- be the same.
pub record IsAgain {F : Type 0} (facts : Facts F) (name : List ℕ) (file again : F) : Type 0 where
  pub how : OpenOptions
  pub opened : facts.opened how name (Ok again)
  pub asks : AsksToPlace how false
  pub above : facts.above again true
  pub this : Found
  pub other : Found
  pub found : facts.found file (Ok this)
  pub found_again : facts.found again (Ok other)
  pub same : is_same this other ≡ true

-- a file that was opened by the name of another has the number of a standard stream, or isn't the same, or that couldn't be asked
abbrev pub IsAnother : {F : Type 0} → Facts F → F → F → Type 0
IsAnother facts file other =
    facts.above other false
    ⊎ (((error : Error) × (facts.found file (Err error) ⊎ facts.found other (Err error)))
    ⊎ ((this : Found) × (that : Found) × facts.found file (Ok this) × facts.found other (Ok that) × (is_same this that ≡ false)))

-- Why it wasn't: a call failed, it got the number of a standard stream, or another file's.
abbrev pub IsNotAgain : {F : Type 0} → Facts F → List ℕ → F → Type 0
IsNotAgain {F} facts name file =
    ((how : OpenOptions) × AsksToPlace how false × (error : Error) × facts.opened how name (Err error))
    ⊎ ((how : OpenOptions) × AsksToPlace how false × (other : F) × facts.opened how name (Ok other) × IsAnother facts file other)

-- a call on a file leaves its name, how it is open, and which file it is
abbrev pub Keeps : {S F : Type 0} → SystemFile S F → SystemFile S F → Type 0
Keeps old new = (new.name ≡ old.name) × (new.mode ≡ old.mode) × (new.this ≡ old.this)

-- A file that is open for reading alone has the same file once more to be written, or stays, and there is a reason. Any other stays.
abbrev pub IsReopened : {S F : Type 0} → Facts F → SystemFile S F → SystemFile S F → Type 0
IsReopened {S} {F} facts old new =
    ((old.mode ≢ ToRead) × (new ≡ old))
    ⊎ (((old.mode ≡ ToRead) × (new ≡ old) × IsNotAgain facts (string_bytes old.name) old.file)
    ⊎ ((old.mode ≡ ToRead) × (again : F) × (new ≡ record old { again = Some again }) × IsAgain facts (string_bytes old.name) old.file again))
