-- A world in memory: what it holds, what it held before each call that changed it, and its counts.
use Rattle.std.specs.Prelude.{◌≡◌, ◌⊎◌, ℕ, Bool, true, ◌||◌, List, [], ◌∷◌, ◌++◌, length, ◌+◌, ◌-◌, ◌^◌, ◌<◌, ◌≤◌, min, max, nat_lt, if◌then◌else◌}
use Rattle.std.proofs.Common.{inl, inr, arith}
use Rattle.pgs_world.specs.Count.{raised, is_listed}
use Rattle.pgs_world.specs.Held.{Held, IsImage, IsWell, after_write, after_cut, on_disk}
use Rattle.pgs_world.specs.Moment.{IsTimed}
use Rattle.pgs_world.specs.World.{Triple, View}
use Rattle.pgs_world.specs.declared.area.Area.{Area}
use Rattle.pgs_world.specs.declared.area.Area.TheVariants.{A, B}
use Rattle.pgs_world.specs.declared.area_limit.TheConstants.{AREA_LIMIT}
use Rattle.pgs_world.specs.declared.meter.Meter.{Meter}

-- both areas and the output
pub record State : Type 0 where
  pub a : Held
  pub b : Held
  pub output : List ℕ

abbrev pub area_of : Area → State → Held
area_of A state = state.a
area_of B state = state.b

abbrev pub with_area : Area → Held → State → State
with_area A held state = record { a = held; b = state.b; output = state.output }
with_area B held state = record { a = state.a; b = held; output = state.output }

abbrev pub with_output : List ℕ → State → State
with_output output state = record { a = state.a; b = state.b; output = output }

abbrev pub shown_of : State → Triple
shown_of state = record { a = state.a.bytes; b = state.b.bytes; output = state.output }

-- what a stop in this state may leave
pub record Leaves (state : State) (triple : Triple) : Type 0 where
  pub a : IsImage state.a triple.a
  pub b : IsImage state.b triple.b
  pub output : triple.output ≡ state.output

-- a state that is past, and the moment at which the call that changed it began
pub record Past : Type 0 where
  pub moment : ℕ
  pub state : State

-- what a stop since that moment may have left, in one of these states
abbrev pub HadLeft : ℕ → List Past → Triple → Type 0
HadLeft t [] triple = ⊥
HadLeft t (was ∷ past) triple = ((t ≤ was.moment) × Leaves was.state triple) ⊎ HadLeft t past triple

-- the first moment after all of them
abbrev pub after_all : List Past → ℕ
after_all [] = 0
after_all (was ∷ past) = max (was.moment + 1) (after_all past)

pub record Kept : Type 0 where
  -- the states before each call that changed it, in order
  pub past : List Past
  pub now : State
  pub meter : Meter

abbrev pub view_of : Kept → View
view_of world =
    record {
      honest = true;
      tells_bytes = true;
      tells_output = true;
      shown = shown_of world.now;
      moment = max world.meter.calls (after_all world.past);
      area_faults = world.meter.area_faults;
      put_faults = world.meter.put_faults;
      puts = world.meter.puts;
      may_leave = Leaves world.now;
      left_since = λ t triple. Leaves world.now triple ⊎ HadLeft t world.past triple;
    }

none_left : (t : ℕ) (past : List Past) (c : Triple) → after_all past ≤ t → HadLeft t past c → ⊥
none_left t [] c after had = had
none_left t (was ∷ past) c after (inl here) = absurd (omega (arith, here.0))
none_left t (was ∷ past) c after (inr there) = none_left t past c (omega arith) there

had_earlier : (t u : ℕ) (past : List Past) (c : Triple) → t ≤ u → HadLeft u past c → HadLeft t past c
had_earlier t u [] c le had = had
had_earlier t u (was ∷ past) c le (inl here) = inl (omega (arith, here.0), here.1)
had_earlier t u (was ∷ past) c le (inr there) = inr (had_earlier t u past c le there)

abbrev pub Since : State → List Past → ℕ → Triple → Type 0
Since now past t c = Leaves now c ⊎ HadLeft t past c

only_now : (world : Kept) (c : Triple) → Since world.now world.past (max world.meter.calls (after_all world.past)) c → Leaves world.now c
only_now world c (inl now) = now
only_now world c (inr had) = absurd (none_left (max world.meter.calls (after_all world.past)) world.past c (omega arith) had)

earlier_now : (world : Kept) (t u : ℕ) (c : Triple) → t ≤ u → Since world.now world.past u c → Since world.now world.past t c
earlier_now world t u c le (inl now) = inl now
earlier_now world t u c le (inr had) = inr (had_earlier t u world.past c le had)

pub timed_kept : (world : Kept) → IsTimed (view_of world)
timed_kept world =
    record {
      now = λ t c le left. inl left;
      only_now = λ c left. only_now world c left;
      earlier = λ t u c le left. earlier_now world t u c le left;
      output = λ honest tells c left. left.output;
    }

-- each area is as it can be
pub record IsWellState (state : State) : Type 0 where
  pub a : IsWell state.a
  pub b : IsWell state.b

-- what holds of every world in memory
pub record IsKnown (world : Kept) : Type 0 where
  pub well : IsWellState world.now
  pub area_count : world.meter.area_faults < 2 ^ 64
  pub put_count : world.meter.put_faults < 2 ^ 64
  pub call_count : world.meter.calls < 2 ^ 64
  -- no call that changed it began later
  pub last : after_all world.past ≤ world.meter.calls
  pub most : world.meter.most ≤ 2 ^ 32

-- the bytes handed in so far, with so many more
abbrev pub handed_with : ℕ → ℕ → ℕ
handed_with handed more = min (handed + more) (2 ^ 64 - 1)

-- the next call is listed, or past the last that may succeed
abbrev pub fails_next : Meter → Bool
fails_next meter = is_listed meter.fail (raised meter.calls) || nat_lt meter.most (raised meter.calls)

-- the same, for a call with a piece of so many bytes: it also fails where the bytes handed in exceed the room
abbrev pub refuses : Meter → ℕ → Bool
refuses meter more = fails_next meter || nat_lt meter.room (handed_with meter.handed more)

-- after a call that is counted
abbrev pub counted : Meter → Meter
counted meter = record meter { calls = raised meter.calls }

-- and its piece too
abbrev pub handed_in : Meter → ℕ → Meter
handed_in meter more = record meter { calls = raised meter.calls; handed = handed_with meter.handed more }

abbrev pub area_failed : Meter → Meter
area_failed meter = record meter { area_faults = raised meter.area_faults }

abbrev pub put_failed : Meter → Meter
put_failed meter = record meter { put_faults = raised meter.put_faults }

-- after a put that succeeds
abbrev pub put_done : Meter → Meter
put_done meter = record meter { puts = meter.puts + 1 }

-- the same state under other counts
abbrev pub unchanged : Kept → Meter → Kept
unchanged world meter = record { past = world.past; now = world.now; meter = meter }

-- a new state, and the old one is past
abbrev pub changed : Kept → Meter → State → Kept
changed world meter state =
    record { past = world.past ++ (record { moment = world.meter.calls; state = world.now }) ∷ []; now = state; meter = meter }

-- an area of more than AREA_LIMIT bytes, or a write past it, is a fault
abbrev pub len_fails : Kept → Area → Bool
len_fails world area = fails_next world.meter || nat_lt AREA_LIMIT (length (area_of area world.now).bytes)

abbrev pub write_fails : Kept → ℕ → ℕ → Bool
write_fails world at count = refuses world.meter count || nat_lt AREA_LIMIT (at + count)

-- after a call that only reads
abbrev pub after_read : Kept → Bool → Kept
after_read world fails = unchanged world (if fails then area_failed (counted world.meter) else counted world.meter)

abbrev pub after_write_at : Kept → Area → ℕ → List ℕ → Kept
after_write_at world area at piece =
    if write_fails world at (length piece)
    then unchanged world (area_failed (handed_in world.meter (length piece)))
    else changed world (handed_in world.meter (length piece)) (with_area area (after_write (area_of area world.now) at piece) world.now)

abbrev pub after_cut_to : Kept → Area → ℕ → Kept
after_cut_to world area len =
    if fails_next world.meter
    then unchanged world (area_failed (counted world.meter))
    else changed world (counted world.meter) (with_area area (after_cut (area_of area world.now) len) world.now)

abbrev pub after_sync : Kept → Area → Kept
after_sync world area =
    if fails_next world.meter
    then unchanged world (area_failed (counted world.meter))
    else changed world (counted world.meter) (with_area area (on_disk (area_of area world.now).bytes) world.now)

abbrev pub after_put : Kept → List ℕ → Kept
after_put world piece =
    if refuses world.meter (length piece)
    then unchanged world (put_failed (handed_in world.meter (length piece)))
    else changed world (put_done (handed_in world.meter (length piece))) (with_output (world.now.output ++ piece) world.now)

-- a world with these areas, all of them on the disk, and no output
abbrev pub begun : List ℕ → List ℕ → ℕ → ℕ → List ℕ → Kept
begun a b room most fail =
    record {
      past = [];
      now = record { a = on_disk a; b = on_disk b; output = [] };
      meter = record { room = room; most = most; fail = fail; calls = 0; handed = 0; area_faults = 0; put_faults = 0; puts = 0 };
    }
