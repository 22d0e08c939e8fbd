-- Why a feed has no file, by what the system answered.
use Rattle.std.specs.Prelude.{◌≡◌, ◌⊎◌, ℕ, ◌<◌, false, List, length, Option, Some, None, Ok, Err, ⊤}
use Rattle.std.specs.declared.fs.options.OpenOptions.{OpenOptions}
use Rattle.std.specs.declared.io.Error.{Error}
use Rattle.pgs_world_files.specs.declared.access.Access.TheVariants.{Append}
use Rattle.pgs_world_files.specs.declared.cause.OpenFault.{OpenFault}
use Rattle.pgs_world_files.specs.declared.cause.OpenFault.TheVariants as opens
use Rattle.pgs_world_files.specs.declared.feed_cause.FeedCause.{FeedCause}
use Rattle.pgs_world_files.specs.declared.feed_cause.FeedCause.TheVariants.{File, NoFeed, Torn, Ahead, Stream}
use Rattle.pgs_world_files.specs.declared.feed_cause.FeedOpenFault.{FeedOpenFault}
use Rattle.pgs_world_files.specs.declared.feed_cause.FeedOpenFault.TheVariants as fault
use Rattle.pgs_world_files.specs.declared.found.Found.{Found}
use Rattle.pgs_world_files.specs.Calls.{Facts, is_same}
use Rattle.pgs_world_files.specs.FeedCalls.{HasEnd, IsStream}
use Rattle.pgs_world_files.specs.FeedLines.{EndIs}
use Rattle.pgs_world_files.specs.Faults.{IsCause}

-- a fault of an open, as one of a feed
abbrev pub of_open : OpenFault → FeedOpenFault
of_open (opens.File cause) = fault.Feed (File cause)
of_open opens.Memory = fault.Memory

-- a call on the way to the end of a feed's file failed, or its name was found to have another file
pub data FailsToLook {F : Type 0} (facts : Facts F) (name : List ℕ) : Type 0 where
  at_open : {how : OpenOptions} {error : Error} → facts.opened how name (Err error) → FailsToLook facts name
  at_found : {file : F} {error : Error} → facts.found file (Err error) → FailsToLook facts name
  at_name : {file look : F} {this now : Found} → facts.found file (Ok this) → facts.found look (Ok now) → is_same this now ≡ false
      → FailsToLook facts name
  at_read : {look left : F} {at : ℕ} {end : List ℕ} {error : Error} → facts.read look at end (Err error) left → FailsToLook facts name
  at_end : {look left : F} {at count : ℕ} {end : List ℕ} → facts.read look at end (Ok count) left → count < length end → FailsToLook facts name

-- the same of a fault; want of memory is free
abbrev pub IsLookFault : {F : Type 0} → Facts F → List ℕ → OpenFault → Type 0
IsLookFault facts name (opens.File cause) = FailsToLook facts name
IsLookFault facts name opens.Memory = ⊤

-- a cause for which a feed has no file, and the fact behind it
abbrev pub IsFeedCause : {F : Type 0} → Facts F → List Found → List ℕ → FeedCause → Type 0
IsFeedCause facts opened name (File cause) = IsCause facts opened name Append cause ⊎ FailsToLook facts name
IsFeedCause {F} facts opened name NoFeed = (file : F) × (end : List ℕ) × HasEnd facts name file end × EndIs end (Err NoFeed)
IsFeedCause {F} facts opened name Torn = (file : F) × (end : List ℕ) × HasEnd facts name file end × EndIs end (Err Torn)
IsFeedCause facts opened name Ahead = ⊥
IsFeedCause {F} facts opened name Stream = (file : F) × (found : Found) × facts.found file (Ok found) × IsStream facts found

-- the same of a fault; want of memory is free
abbrev pub IsFeedFault : {F : Type 0} → Facts F → List Found → List ℕ → FeedOpenFault → Type 0
IsFeedFault facts opened name (fault.Feed cause) = IsFeedCause facts opened name cause
IsFeedFault facts opened name fault.Memory = ⊤

-- there is a cause, and the fact behind it
abbrev pub HasFeedCause : {F : Type 0} → Facts F → List Found → List ℕ → Option FeedCause → Type 0
HasFeedCause facts opened name (Some cause) = IsFeedCause facts opened name cause
HasFeedCause facts opened name None = ⊥
