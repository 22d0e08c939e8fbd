-- The front of a line that comes in parts.
use Rattle.std.specs.Prelude.{◌≡◌, true, ℕ, List}
use Rattle.pgs_run_lines.specs.Input.{has_no_feed, front_of}

pub record Kept : Type 0 where
  pub bytes : List ℕ
  pub limit : ℕ

-- the front of a line whose line feed hasn't come
pub record IsBegun (line : Kept) : Type 0 where
  pub no_feed : has_no_feed line.bytes ≡ true
  pub front : front_of line.limit line.bytes ≡ line.bytes
