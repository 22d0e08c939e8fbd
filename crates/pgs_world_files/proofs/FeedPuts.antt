-- What a put into a feed did, by what its call answered.
use Rattle.std.proofs.Common.{◌≡◌, ◌∙◌, Bool, true, false, true≢false, List, [], ℕ, Option, Some, None, Result, Ok, Err, is_err, OnOk, OnErr, refl, sym, ap}
use Rattle.std.specs.Io.KnownBytes.{Appends}
use Rattle.std.specs.Option.{is_some}
use Rattle.pgs_world.specs.World.{Adds, AddsFront}
use Rattle.pgs_world_files.specs.declared.file_feed.FileFeed.{FileFeed}
use Rattle.pgs_world_files.specs.FeedPuts.{FeedPutIs, IsPutCause, IsPutInto, is_behind, put_answer, told_in}
use Rattle.pgs_world_files.specs.Handles.{IfOpen}
use Rattle.pgs_world_streams.specs.Given.{BareCall, PlainCall}
use Rattle.pgs_world_streams.specs.Pieces.{HoldsPiece}

told_of : {A F P : Type 0} (answer : Result A F) → OnErr answer P → is_err answer ≡ true → P
told_of (Ok done) told fails = absurd (true≢false (sym fails))
told_of (Err fault) told fails = told

module _ {W A F : Type 0} (writes : PlainCall W) (flushes : BareCall W) where
  -- of the answer it says no more than whether it failed
  given_of : (behind : Bool) (piece : List ℕ) (old : Option W) (answer : Result A F) (new : Option W)
      → IfOpen (λ before made after. FeedPutIs writes flushes behind before piece made after) old answer new
      → IfOpen (λ before made after. FeedPutIs writes flushes behind before piece made after) old (put_answer (is_err answer)) new
  given_of true piece (Some old) (Ok done) (Some new) given = given
  given_of true piece (Some old) (Err fault) (Some new) given = given
  given_of false piece (Some old) (Ok done) (Some new) given = given
  given_of false piece (Some old) (Err fault) (Some new) given = given
  given_of behind piece (Some old) answer None given = absurd given
  given_of behind piece None (Ok done) new given = absurd given
  given_of behind piece None (Err fault) new given = given

  pub put_into : (old new : FileFeed W) (piece : List ℕ) (answer : Result A F)
      → IfOpen (λ before made after. FeedPutIs writes flushes (is_behind old.last piece) before piece made after) old.writer answer new.writer
      → OnErr answer (IsPutCause old.writer (is_behind old.last piece) old.cause new.cause) → new.last ≡ old.last → IsPutInto writes flushes old piece (is_err answer) new
  put_into old new piece answer given told last = record {
    given = given_of (is_behind old.last piece) piece old.writer answer new.writer given;
    told = told_of answer told;
    last = last;
  }

-- bytes that are told always, or never, grow
adds_steady : (old new : Option (List ℕ)) (piece : List ℕ) → is_some new ≡ is_some old → Appends old new piece → Adds old new piece
adds_steady None None piece same appends = refl
adds_steady None (Some ys) piece same appends = absurd (true≢false same)
adds_steady (Some xs) None piece same appends = absurd appends
adds_steady (Some xs) (Some ys) piece same appends = ap Some appends

module _ {W A F : Type 0} (contents : W → Option (List ℕ)) (tells : Bool) (steady : (writer : W) → is_some (contents writer) ≡ tells) where
  -- what a feed tells grows by the piece, or by a front of it
  pub feed_adds : (old new : Option W) (piece : List ℕ) (answer : Result A F) → IfOpen (λ before made after. HoldsPiece contents before piece made after) old answer new
      → OnOk answer (Adds (told_in contents old) (told_in contents new) piece)
  feed_adds None new piece (Ok done) holds = absurd holds
  feed_adds (Some old) None piece (Ok done) holds = absurd holds
  feed_adds (Some old) (Some new) piece (Ok done) holds = adds_steady (contents old) (contents new) piece (steady new ∙ sym (steady old)) holds
  feed_adds old new piece (Err fault) holds = tt

  pub feed_adds_front : (old new : Option W) (piece : List ℕ) (answer : Result A F) → IfOpen (λ before made after. HoldsPiece contents before piece made after) old answer new
      → OnErr answer (AddsFront (told_in contents old) (told_in contents new) piece)
  feed_adds_front old new piece (Ok done) holds = tt
  feed_adds_front None new piece (Err fault) holds = record { front = []; back = piece; parts = refl; added = ap (told_in contents) holds }
  feed_adds_front (Some old) None piece (Err fault) holds = absurd holds
  feed_adds_front (Some old) (Some new) piece (Err fault) holds =
      record {
        front = holds.front;
        back = holds.back;
        parts = holds.parts;
        added = adds_steady (contents old) (contents new) holds.front (steady new ∙ sym (steady old)) holds.appends;
      }
