-- What is opened for words.
use Rattle.std.specs.Prelude.{◌≡◌, ◌⊎◌, ℕ, Bool, true, false, List, [], ◌∷◌, ◌++◌, Option, Some, None, codes, map}
use Rattle.std.specs.List.{list_any}
use Rattle.std.specs.Option.{unwrap_or}
use Rattle.std.specs.Str.{bytes_eq}
use Rattle.pgs_base.specs.declared.seed.Seed.{Seed}
use Rattle.pgs_feed.specs.Places.{Place, fed}
use Rattle.pgs_feed.specs.Seen.{feeds_in, places}
use Rattle.pgs_program.specs.Outside.{AreFilesOf, IsFresh}
use Rattle.pgs_run_words.specs.declared.command.Command.{Command}
use Rattle.pgs_run_words.specs.declared.command.Command.TheVariants.{Load, Recover, Explain, Checkpoint}
use Rattle.pgs_run_words.specs.Words.{command_of, store_of, feeds_of}
use Rattle.pgs_world_files.specs.declared.access.StoreAccess.{StoreAccess}
use Rattle.pgs_world_files.specs.declared.access.StoreAccess.TheVariants.{Read, Append, WriteOver, Make}
use Rattle.pgs_world_files.specs.declared.cause.FileCause.TheVariants.{Twice}
use Rattle.pgs_world_files.specs.declared.feed_cause.FeedCause.TheVariants.{File}
use Rattle.pgs_world_files.specs.declared.file_feed.FileFeed.{FileFeed}
use Rattle.pgs_world_files.specs.Counted.{untold_bytes}
use Rattle.pgs_world_files.specs.Opened.{AreaGives}
use Rattle.pgguard.specs.declared.opening.Opened.{Opened}

-- what a command does with its store
abbrev pub access_of : Option Command → StoreAccess
access_of (Some Recover) = Read
access_of (Some (Explain elem)) = Read
access_of (Some Load) = Make
access_of (Some Checkpoint) = WriteOver
access_of command = Append

-- whether a name is among these
abbrev pub is_among : List (List ℕ) → List ℕ → Bool
is_among names name = list_any (bytes_eq name) names

-- the feed of a name behind others: one into no file where it is among them, and else what the name gave
abbrev pub IsFeedOf : {L : Type 0} → (List ℕ → FileFeed L → Type 0) → List (List ℕ) → List ℕ → FileFeed L → Type 0
IsFeedOf gives earlier name feed =
    ((is_among earlier name ≡ true) × (feed.writer ≡ None) × (feed.cause ≡ Some (File Twice))) ⊎ ((is_among earlier name ≡ false) × gives name feed)

-- the feeds of these names behind others, one for each name, in order
abbrev pub AreFeedsOf : {L : Type 0} → (List ℕ → FileFeed L → Type 0) → List (List ℕ) → List (List ℕ) → List (Option (FileFeed L)) → Type 0
AreFeedsOf gives earlier [] [] = Unit {0}
AreFeedsOf gives earlier (name ∷ names) (Some feed ∷ feeds) = IsFeedOf gives earlier name feed × AreFeedsOf gives (earlier ++ name ∷ []) names feeds
AreFeedsOf gives earlier names feeds = ⊥

-- the names of a store's files; no feed is one of them
abbrev pub files_of : (store : Option (List ℕ)) → List (List ℕ)
files_of store = (unwrap_or store [] ++ codes ".a") ∷ (unwrap_or store [] ++ codes ".b") ∷ []

-- a feed that hasn't failed, without what it tells
abbrev pub fed_none : Place
fed_none = fed untold_bytes 0

-- What a run goes over for these words, before its first call: this reader and this writer, the areas of the store that they name, the
-- feeds that they name, and graphs that hash by this seed.
pub record IsOpened {R W H L : Type 0} (areas : AreaGives H) (feeds : List ℕ → FileFeed L → Type 0) (words : List (List ℕ)) (reader : R)
    (writer : W) (seed : Seed) (opened : Opened R W H L) : Type 0 where
  pub fresh : IsFresh reader writer seed opened.outside
  pub files : AreFilesOf areas (store_of words) (access_of (command_of words)) opened.outside.world.areas
  pub fed : AreFeedsOf feeds (files_of (store_of words)) (feeds_of words) (feeds_in opened.feeds)
  pub unfailed : places (λ feed. untold_bytes) (λ feed. feed.faults) opened.feeds ≡ map (λ name. fed_none) (feeds_of words)
