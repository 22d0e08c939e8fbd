-- A source in memory that fails as listed.
use Rattle.std.specs.Prelude.{ℕ, Bool, List, length, drop, min, if◌then◌else◌}
use Rattle.pgs_world.specs.Count.{raised, is_listed}

pub record Reading : Type 0 where
  -- the bytes that are left
  pub left : List ℕ
  -- at most so many bytes a read
  pub piece : ℕ
  -- the numbers of the reads that fail, from 1
  pub fail : List ℕ
  -- how often it was read, and how often that failed
  pub calls : ℕ
  pub faults : ℕ

-- the next read is one of those that fail
abbrev pub fails_next : Reading → Bool
fails_next source = is_listed source.fail (raised source.calls)

-- how many bytes the next read gives to a buffer, where it doesn't fail
abbrev pub gives_next : Reading → ℕ → ℕ
gives_next source room = min (min (length source.left) room) source.piece

-- the source after a read with a buffer of so many bytes
abbrev pub after_read : Reading → ℕ → Reading
after_read source room =
    record {
      left = if fails_next source then source.left else drop (gives_next source room) source.left;
      piece = source.piece;
      fail = source.fail;
      calls = raised source.calls;
      faults = if fails_next source then raised source.faults else source.faults;
    }
