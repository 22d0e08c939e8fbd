-- A world that tells nothing, and fails as listed.
use Rattle.std.specs.Prelude.{ℕ, ◌+◌, ◌-◌, ◌^◌, Bool, not, ◌||◌, List, nat_eq, if◌then◌else◌}
use Rattle.pgs_world.specs.Count.{raised, is_listed}
use Rattle.pgs_world.specs.Untold.{untold}
use Rattle.pgs_world.specs.World.{View}

pub record Silent : Type 0 where
  -- the numbers of the calls that fail, from 1
  pub fail : List ℕ
  pub calls : ℕ
  pub area_faults : ℕ
  pub put_faults : ℕ
  pub puts : ℕ

abbrev pub silent_view : Silent → View
silent_view world =
    untold (record { calls = world.calls; area_faults = world.area_faults; put_faults = world.put_faults; puts = world.puts })

-- the next call is listed
abbrev pub fails_next : Silent → Bool
fails_next world = is_listed world.fail (raised world.calls)

-- a put fails where it is listed, and where no more puts can be counted
abbrev pub put_fails : Silent → Bool
put_fails world = fails_next world || nat_eq world.puts (2 ^ 64 - 1)

-- the next call on an area fails, where it is refused or listed
abbrev pub area_fails : Silent → Bool → Bool
area_fails world refused = refused || fails_next world

-- its areas are empty: each range that isn't is outside
abbrev pub is_outside : ℕ → ℕ → Bool
is_outside at count = not (nat_eq at 0) || not (nat_eq count 0)

abbrev pub after_area_call : Silent → Bool → Silent
after_area_call world fails =
    record {
      fail = world.fail;
      calls = raised world.calls;
      area_faults = if fails then raised world.area_faults else world.area_faults;
      put_faults = world.put_faults;
      puts = world.puts;
    }

abbrev pub after_put : Silent → Silent
after_put world =
    record {
      fail = world.fail;
      calls = raised world.calls;
      area_faults = world.area_faults;
      put_faults = if put_fails world then raised world.put_faults else world.put_faults;
      puts = if put_fails world then world.puts else world.puts + 1;
    }
