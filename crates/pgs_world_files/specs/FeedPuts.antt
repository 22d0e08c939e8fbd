-- What a put into a feed's file does.
use Rattle.std.specs.Prelude.{◌≡◌, ℕ, Bool, true, false, not, List, Option, Some, None, Result, Ok, Err, nat_lt, ⊤}
use Rattle.pgs_world_streams.specs.Given.{PlainCall, BareCall}
use Rattle.pgs_world_streams.specs.Pieces.{PieceIs}
use Rattle.pgs_world_files.specs.declared.feed_cause.FeedCause.{FeedCause}
use Rattle.pgs_world_files.specs.declared.feed_cause.FeedCause.TheVariants.{File, Ahead}
use Rattle.pgs_world_files.specs.declared.file_feed.FileFeed.{FileFeed}
use Rattle.pgs_world_files.specs.FeedLines.{commit_of}
use Rattle.pgs_world_files.specs.Handles.{IfOpen}

-- the bytes that a feed tells: those that its writer holds and tells; without a file none
abbrev pub told_in : {W : Type 0} → (W → Option (List ℕ)) → Option W → Option (List ℕ)
told_in contents None = None
told_in contents (Some writer) = contents writer

-- a piece begins as the line of a commit above this one
abbrev pub is_above : ℕ → Option ℕ → Bool
is_above last None = false
is_above last (Some number) = nat_lt last number

-- the last line of the file has a number, and the piece is no line of a commit above it
abbrev pub is_behind : Option ℕ → List ℕ → Bool
is_behind None piece = false
is_behind (Some last) piece = not (is_above last (commit_of piece))

-- A put into an open file. A piece that isn't above the file's last line fails, and nothing is written; else the whole piece was written
-- and flushed, or that failed.
abbrev pub FeedPutIs : {W A F : Type 0} → PlainCall W → BareCall W → (behind : Bool) → W → List ℕ → Result A F → W → Type 0
FeedPutIs writes flushes true old piece (Ok done) new = ⊥
FeedPutIs writes flushes true old piece (Err fault) new = new ≡ old
FeedPutIs writes flushes false old piece answer new = PieceIs writes flushes old piece answer new

-- Why a put failed: where there is no file, as it stands; that the file is ahead; or what the failed call told.
abbrev pub IsPutCause : {W : Type 0} → Option W → (behind : Bool) → Option FeedCause → Option FeedCause → Type 0
IsPutCause None behind old new = new ≡ old
IsPutCause (Some writer) true old new = new ≡ Some Ahead
IsPutCause (Some writer) false old (Some (File cause)) = Unit {0}
IsPutCause (Some writer) false old cause = ⊥

-- what a put answers, which fails or doesn't
abbrev pub put_answer : (fails : Bool) → Result ⊤ ⊤
put_answer true = Err tt
put_answer false = Ok tt

-- A put of a piece into a feed, which failed or didn't: what it did to the open file, and the cause that is kept where it failed. The number of
-- the file's last line stays.
pub record IsPutInto {W : Type 0} (writes : PlainCall W) (flushes : BareCall W) (old : FileFeed W) (piece : List ℕ) (fails : Bool) (new : FileFeed W) : Type 0 where
  pub given : IfOpen (λ before answer after. FeedPutIs writes flushes (is_behind old.last piece) before piece answer after) old.writer (put_answer fails) new.writer
  pub told : fails ≡ true → IsPutCause old.writer (is_behind old.last piece) old.cause new.cause
  pub last : new.last ≡ old.last
