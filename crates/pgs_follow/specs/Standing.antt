-- What contracts see of a follower, and of which bytes it stands for what is followed of them.
use Rattle.std.specs.Prelude.{◌≡◌, ℕ, suc, List, [], ◌∷◌, length, None, is_some, ◌==◌, if◌then◌else◌}
use Rattle.pgs_base.specs.declared.limits.Limits.{Limits}
use Rattle.pgs_run_lines.specs.Input.{lines_of}
use Rattle.pgs_follow.specs.Followed.{Followed, followed}

-- what was followed of whole lines, and the limits
pub record ProgressState : Type 0 where
  pub limits : Limits
  pub followed : Followed

-- the same of a follower, with the bytes of the line that isn't ended yet
pub record FollowerState : Type 0 where
  pub limits : Limits
  pub followed : Followed
  pub line : List ℕ

-- a follower that took these bytes, however they were cut
pub record StandsFor (bytes : List ℕ) (f : FollowerState) : Type 0 where
  pub told : f.followed ≡ followed f.limits bytes
  pub line : f.followed.fault ≡ None → f.line ≡ (lines_of bytes).rest

-- how many bytes there are up to the first line feed and with it, or of all where there is none
abbrev pub through_feed : List ℕ → ℕ
through_feed [] = 0
through_feed (b ∷ bytes) = if b == 10 then 1 else suc (through_feed bytes)

-- how many bytes of a piece a follower takes
abbrev pub taken_of : FollowerState → List ℕ → ℕ
taken_of f piece = if is_some f.followed.fault then length piece else through_feed piece

-- how many bytes of an unfinished line there are; none once there is a fault
abbrev pub rest_in : FollowerState → ℕ
rest_in f = if is_some f.followed.fault then 0 else length f.line
