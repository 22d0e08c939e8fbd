-- A feed in memory that fails as listed.
use Rattle.std.specs.Prelude.{ℕ, Bool, ◌||◌, ◌+◌, ◌++◌, List, length, nat_lt, if◌then◌else◌}
use Rattle.pgs_world.specs.Count.{raised, is_listed}

pub record Feeding : Type 0 where
  -- the bytes that it took, and how many it can take
  pub bytes : List ℕ
  pub room : ℕ
  -- the numbers of the puts that fail, from 1
  pub fail : List ℕ
  -- how many puts there were, and how many of them failed
  pub calls : ℕ
  pub faults : ℕ

-- a put of this piece is one of those that fail: it is listed, or there is no room for the piece
abbrev pub refuses_next : Feeding → List ℕ → Bool
refuses_next feed piece = is_listed feed.fail (raised feed.calls) || nat_lt feed.room (length feed.bytes + length piece)

-- the feed after a put of a piece
abbrev pub after_piece : Feeding → List ℕ → Feeding
after_piece feed piece =
    record {
      bytes = if refuses_next feed piece then feed.bytes else feed.bytes ++ piece;
      room = feed.room;
      fail = feed.fail;
      calls = raised feed.calls;
      faults = if refuses_next feed piece then raised feed.faults else feed.faults;
    }
