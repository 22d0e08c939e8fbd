-- What is promised of a run of the program: over what is opened for its words all that is promised of the command that they name.
use Rattle.std.specs.Prelude.{◌≡◌, ◌⊎◌, ℕ, Bool, true, List, Option}
use Rattle.pgs_base.specs.declared.seed.Seed.{Seed}
use Rattle.pgs_command.specs.declared.status.Status.{Status}
use Rattle.pgs_command.specs.declared.status.Status.TheVariants.{Memory}
use Rattle.pgs_command.specs.Calls.{fails_read, fails_world}
use Rattle.pgs_command.specs.Feeding.{RunGives}
use Rattle.pgs_command.specs.Promise.{Runs}
use Rattle.pgs_command.specs.Setting.{Setting}
use Rattle.pgs_feed.specs.declared.feed_list.FeedList.{FeedList}
use Rattle.pgs_feed.specs.Deliveries.{ListKind, kind_of}
use Rattle.pgs_feed.specs.Puts.{PutsOnceEach}
use Rattle.pgs_feed.specs.Seen.{places}
use Rattle.pgs_program.specs.Outside.{Telling, setting_in}
use Rattle.pgs_run.specs.Commands.{spec_for}
use Rattle.pgs_run_lines.specs.Calls.{MakesReads}
use Rattle.pgs_run_lines.specs.declared.budget.TheConstants.{BUDGET}
use Rattle.pgs_world_files.specs.declared.file_feed.FileFeed.{FileFeed}
use Rattle.pgs_world_files.specs.Opened.{AreaGives}
use Rattle.pgguard.specs.Opened.{IsOpened}
use Rattle.pgguard.specs.declared.opening.Opened.{Opened}
use Rattle.pgguard.specs.declared.program.Ran.{Ran}

-- What a feed into a file tells: the bytes that it holds, where it tells them; and that a put into it was made, its piece, and whether it failed.
pub record FeedTelling (L : Type 0) : Type 1 where
  pub taken : FileFeed L → Option (List ℕ)
  pub put_made : FileFeed L → List ℕ → (fails : Bool) → FileFeed L → Type 0

-- what contracts see of what was opened
abbrev pub setting_of : {R W H L : Type 0} → Telling R W H → FeedTelling L → Opened R W H L → Setting
setting_of telling feeding opened = setting_in telling (places feeding.taken (λ feed. feed.faults) opened.feeds) opened.outside

-- lists of such feeds
abbrev pub file_feeds : {L : Type 0} → FeedTelling L → ListKind
file_feeds {L} feeding =
    kind_of {L = FeedList (FileFeed L)} (λ feeds. places feeding.taken (λ feed. feed.faults) feeds) (λ old line puts new. PutsOnceEach feeding.put_made line old new)

-- A run of these words over what was opened for them: all that is promised of their command holds, from there to what there is at its end, and
-- of what its feeds are given and when. Where the status says that a call on the areas or the output failed, it was the last one; and these reads were made.
pub record IsRunOf {R W H L : Type 0} (areas : AreaGives H) (feeds : List ℕ → FileFeed L → Type 0) (telling : Telling R W H)
    (feeding : FeedTelling L) (words : List (List ℕ)) (reader : R) (writer : W) (seed : Seed) (ran : Ran R W H L) : Type 0 where
  pub start : Opened R W H L
  pub opened : IsOpened areas feeds words reader writer seed start
  pub promise : Runs (spec_for words) BUDGET (setting_of telling feeding start) (setting_of telling feeding ran.opened) ran.status
  pub gives : RunGives (spec_for words) (file_feeds feeding) (setting_of telling feeding start) (setting_of telling feeding ran.opened) start.feeds ran.opened.feeds ran.status
  pub last : fails_world ran.status ≡ true → telling.failed ran.opened.outside.world
  pub calls : MakesReads telling.read_made BUDGET start.outside.source (fails_read ran.status) ran.opened.outside.source

-- over some reader and some writer such a run ended with this status
pub record EndsRunOf {R W H L : Type 0} (areas : AreaGives H) (feeds : List ℕ → FileFeed L → Type 0) (telling : Telling R W H)
    (feeding : FeedTelling L) (words : List (List ℕ)) (status : Status) : Type 0 where
  pub reader : R
  pub writer : W
  pub seed : Seed
  pub ran : Ran R W H L
  pub is : IsRunOf areas feeds telling feeding words reader writer seed ran
  pub ended : ran.status ≡ status

-- so it was; or there was no memory to open what the words name
abbrev pub EndsAs : {R W H L : Type 0} → AreaGives H → (feeds : List ℕ → FileFeed L → Type 0) → Telling R W H → FeedTelling L → (words : List (List ℕ)) → Status → Type 0
EndsAs areas feeds telling feeding words status = EndsRunOf areas feeds telling feeding words status ⊎ (status ≡ Memory)
