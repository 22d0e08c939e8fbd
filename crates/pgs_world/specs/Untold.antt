-- Worlds of which nothing is said of stops, as of real files. Where such a world tells nothing, no more is known of it than its counts.
use Rattle.std.specs.Prelude.{ℕ, Bool, false, []}
use Rattle.pgs_world.specs.World.{Triple, View}
use Rattle.pgs_world.specs.Moment.{IsTimed}

pub record Counts : Type 0 where
  -- the calls of all kinds, which are its moments
  pub calls : ℕ
  pub area_faults : ℕ
  pub put_faults : ℕ
  -- the puts that answered Ok
  pub puts : ℕ

-- what it shows, as far as it tells, and its counts
abbrev pub without_stops : (tells_bytes tells_output : Bool) → Triple → Counts → View
without_stops tells_bytes tells_output shown counts =
    record {
      honest = false;
      tells_bytes = tells_bytes;
      tells_output = tells_output;
      shown = shown;
      moment = counts.calls;
      area_faults = counts.area_faults;
      put_faults = counts.put_faults;
      puts = counts.puts;
      may_leave = λ _. ⊥;
      left_since = λ _ _. ⊥;
    }

abbrev pub untold : Counts → View
untold counts = without_stops false false (record { a = []; b = []; output = [] }) counts

pub timed_without_stops : (tells_bytes tells_output : Bool) (shown : Triple) (counts : Counts) → IsTimed (without_stops tells_bytes tells_output shown counts)
timed_without_stops tells_bytes tells_output shown counts =
    record {
      now = λ t c le left. left;
      only_now = λ c left. left;
      earlier = λ t u c le left. left;
      output = λ honest _ c left. absurd left;
    }

pub timed_untold : (counts : Counts) → IsTimed (untold counts)
timed_untold counts = timed_without_stops false false (record { a = []; b = []; output = [] }) counts
