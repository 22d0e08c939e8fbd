-- What the calls of the system answered of a feed's file.
use Rattle.std.specs.Prelude.{◌≡◌, ◌⊎◌, ℕ, ◌-◌, ◌≤◌, Bool, true, false, ◌&&◌, List, length, min, Option, Some, None, Result, Ok, Err, codes}
use Rattle.std.specs.IoError.{error_kind}
use Rattle.std.specs.declared.fs.options.OpenOptions.{OpenOptions}
use Rattle.std.specs.declared.io.Error.{Error}
use Rattle.std.specs.declared.io.ErrorKind.TheVariants.{PermissionDenied}
use Rattle.pgs_world_files.specs.declared.feed_opening.TheConstants.{END_LIMIT}
use Rattle.pgs_world_files.specs.declared.found.Found.{Found}
use Rattle.pgs_world_files.specs.Calls.{AsksToPlace, Facts, IsOpenBehind, is_same}
use Rattle.pgs_world_files.specs.FeedLines.{EndIs}

-- a name was answered to be of this file, and it is regular
abbrev pub is_stream : Result Found Error → Found → Bool
is_stream (Ok there) found = there.is_regular && is_same there found
is_stream (Err error) found = false

-- the name of a standard stream was asked for, and whether it is of this file, as a regular one
pub record StreamIs {F : Type 0} (facts : Facts F) (stream : List ℕ) (found : Found) (is : Bool) : Type 0 where
  pub answer : Result Found Error
  pub there : facts.there stream answer
  pub told : is ≡ is_stream answer found

-- the file is the regular one of neither standard input nor standard output
abbrev pub IsNoStream : {F : Type 0} → Facts F → Found → Type 0
IsNoStream facts found = StreamIs facts (codes "/dev/stdin") found false × StreamIs facts (codes "/dev/stdout") found false

-- it is that of one
abbrev pub IsStream : {F : Type 0} → Facts F → Found → Type 0
IsStream facts found = StreamIs facts (codes "/dev/stdin") found true ⊎ StreamIs facts (codes "/dev/stdout") found true

-- the file of a name was opened to be read; or that was denied
abbrev pub MayBeRead : {F : Type 0} → Facts F → List ℕ → Option F → Type 0
MayBeRead facts name (Some look) = (how : OpenOptions) × AsksToPlace how true × facts.opened how name (Ok look)
MayBeRead facts name None =
    (how : OpenOptions) × AsksToPlace how true × (error : Error) × facts.opened how name (Err error) × (error_kind error ≡ PermissionDenied)

-- The last bytes of a file, at most END_LIMIT: the file of its name was opened to be read, was found to be the same, and they were read there.
pub record HasEnd {F : Type 0} (facts : Facts F) (name : List ℕ) (file : F) (end : List ℕ) : Type 0 where
  pub look : F
  pub opened : MayBeRead facts name (Some look)
  pub this : Found
  pub now : Found
  pub found_file : facts.found file (Ok this)
  pub found_look : facts.found look (Ok now)
  pub same : is_same this now ≡ true
  pub size : length end ≡ min now.len END_LIMIT
  pub count : ℕ
  pub left : F
  pub read : facts.read look (now.len - length end) end (Ok count) left
  pub whole : length end ≤ count

-- the end of a feed's file isn't looked at: it isn't regular, or may not be read
pub record IsUnseen {F : Type 0} (facts : Facts F) (name : List ℕ) (file : F) : Type 0 where
  pub found : Found
  pub found_file : facts.found file (Ok found)
  pub why : (found.is_regular ≡ false) ⊎ MayBeRead facts name None

-- What is known of the last line of a feed's file: its end was looked at, and this is the number of its last line, or there is none; nothing
-- where the end isn't looked at.
abbrev pub IsLookedAt : {F : Type 0} → Facts F → List ℕ → F → Option ℕ → Type 0
IsLookedAt facts name file last =
    (IsUnseen facts name file × (last ≡ None)) ⊎ ((end : List ℕ) × HasEnd facts name file end × EndIs end (Ok last))

-- The file of a name, open behind its end, as a feed: it is that of no standard stream, and its end was looked at.
pub record IsOpenFeed {F : Type 0} (facts : Facts F) (name : List ℕ) (file : F) (last : Option ℕ) : Type 0 where
  pub behind : IsOpenBehind facts name file
  pub found : Found
  pub found_file : facts.found file (Ok found)
  pub apart : IsNoStream facts found
  pub looked : IsLookedAt facts name file last
