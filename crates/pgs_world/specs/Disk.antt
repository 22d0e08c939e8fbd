-- The disk model: what each call may do to an image. An image may then be any that comes, by these steps, from
-- one that the last successful sync left. So its length is between the least and the greatest since that sync,
-- a byte below the least length and in no range that was written since is the byte that was there, and every
-- other byte may be anything.
use Rattle.std.specs.Prelude.{◌≡◌, ℕ, ◌+◌, ◌≤◌, min, max, List, ◌++◌, length, take, drop}
use Rattle.pgs_world.specs.declared.area.Area.{Area}
use Rattle.pgs_world.specs.World.{Triple, part, other}

-- these bytes with the piece at this place
abbrev pub written_over : List ℕ → ℕ → List ℕ → List ℕ
written_over bytes at piece = take at bytes ++ piece ++ drop (at + length piece) bytes

-- a write of so many bytes: anything in their range and past the old end, the same elsewhere
pub record IsTorn (at count : ℕ) (old new : List ℕ) : Type 0 where
  pub before : take at new ≡ take at old
  pub after : drop (at + count) new ≡ drop (at + count) old
  pub no_shorter : length old ≤ length new
  pub no_longer : length new ≤ max (length old) (at + count)

-- a cut to this length: the same below it, and anything behind it that isn't longer
pub record IsCutShort (len : ℕ) (old new : List ℕ) : Type 0 where
  pub front : take len new ≡ take len old
  pub no_shorter : min len (length old) ≤ length new
  pub no_longer : length new ≤ length old

-- the other area and the output are the same
pub record IsSameBeside (area : Area) (old new : Triple) : Type 0 where
  pub beside : part (other area) new ≡ part (other area) old
  pub output : new.output ≡ old.output

pub record Writes (area : Area) (at count : ℕ) (old new : Triple) : Type 0 where
  pub torn : IsTorn at count (part area old) (part area new)
  pub same : IsSameBeside area old new

pub record Cuts (area : Area) (len : ℕ) (old new : Triple) : Type 0 where
  pub short : IsCutShort len (part area old) (part area new)
  pub same : IsSameBeside area old new

-- both areas are the same, and some front of the piece was put
pub record PutsFront (piece : List ℕ) (old new : Triple) : Type 0 where
  pub a : new.a ≡ old.a
  pub b : new.b ≡ old.b
  pub front : List ℕ
  pub back : List ℕ
  pub parts : piece ≡ front ++ back
  pub added : new.output ≡ old.output ++ front
