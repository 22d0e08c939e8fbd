-- What every world says of its calls, of a world in memory.
use Rattle.std.proofs.Common.{◌≡◌, ⊎_elim, ℕ, ◌<◌, ◌≤◌, ◌^◌, Bool, true, false, not, is_err, nat_lt, OnOk, List, length, refl, arith, Ok, Err}
use Rattle.std.specs.declared.result.Result.{Result}
use Rattle.std.specs.Bool.{if◌then◌else◌}
use Rattle.std.proofs.lemmas.Bool.{false≢true}
use Rattle.pgs_world.specs.declared.area.Area.{Area}
use Rattle.pgs_world.specs.declared.area.Area.TheVariants.{A, B}
use Rattle.pgs_world.specs.declared.meter.Meter.{Meter}
use Rattle.pgs_world.specs.Count.{Rose, raised, is_listed}
use Rattle.pgs_world.specs.World.{Triple, part}
use Rattle.pgs_world.specs.Disk.{Writes, Cuts, PutsFront}
use Rattle.pgs_world.specs.Moment.{Passes, StopsBy, IsQuiet, ShowsOne, IsSettled}
use Rattle.pgs_world.specs.Held.{on_disk}
use Rattle.pgs_world.specs.MemWorld.{State, Kept, Leaves, IsWellState, IsKnown, after_all, view_of, area_of, with_area, shown_of, timed_kept, unchanged, changed, fails_next, refuses, write_fails, counted, handed_in, area_failed, put_failed, put_done, after_read, after_write_at, after_cut_to, after_sync, after_put, begun}
use Rattle.pgs_world.proofs.Images.{only_image}
use Rattle.pgs_world.proofs.Sounds.{or_false, lt_false}
use Rattle.pgs_world.proofs.MemMoments.{quiet-unchanged, passes-changed, stops-changed, stops-unchanged, rises-unchanged, rises-changed, since_push, writes_same, cuts_same, puts_same, write_from, cut_from, sync_from, put_from, shows_one, well-write, well-cut, well-sync}

abbrev either : Bool → Kept → Meter → Meter → State → Kept
either fails world failed done state = if fails then unchanged world failed else changed world done state

-- a call that may succeed is not the last that can be counted
next_call : (meter : Meter) → meter.most ≤ 2 ^ 32 → fails_next meter ≡ false → meter.calls < raised meter.calls
next_call meter most may =
    let within : nat_lt meter.most (raised meter.calls) ≡ false = (or_false (is_listed meter.fail (raised meter.calls)) (nat_lt meter.most (raised meter.calls)) may).1 in
    omega (arith, most, lt_false meter.most (raised meter.calls) within)

-- the counts of calls, faults and puts don't fall
record Grows (old new : Meter) : Type 0 where
  calls : old.calls ≤ new.calls
  area_faults : old.area_faults ≤ new.area_faults
  put_faults : old.put_faults ≤ new.put_faults
  puts : old.puts ≤ new.puts

module _ (fails : Bool) (world : Kept) (failed done : Meter) (state : State) where
  passes-either : after_all world.past ≤ world.meter.calls → (fails ≡ false → world.meter.calls < done.calls) → Grows world.meter failed → Grows world.meter done → Passes (view_of world) (view_of (either fails world failed done state))
  passes-either last next f d =
      (elim fails as (λ b. (b ≡ false → world.meter.calls < done.calls) → Passes (view_of world) (view_of (either b world failed done state))) [
        | true ↦ λ _. (quiet-unchanged world failed f.area_faults f.put_faults f.puts f.calls).passes
        | false ↦ λ later. passes-changed world done d.area_faults d.put_faults d.puts d.calls state last (later refl)
      ]) next

  rises-either : after_all world.past ≤ world.meter.calls → (fails ≡ false → world.meter.calls < done.calls) → failed.calls ≡ raised world.meter.calls → Rose (view_of world).moment (view_of (either fails world failed done state)).moment
  rises-either last next is =
      (elim fails as (λ b. (b ≡ false → world.meter.calls < done.calls) → Rose (view_of world).moment (view_of (either b world failed done state)).moment) [
        | true ↦ λ _. rises-unchanged world failed last is
        | false ↦ λ later. rises-changed world done state last (later refl)
      ]) next

  stops-either : (step : Triple → Triple → Type 0) → ((c : Triple) → step c c) → ((c : Triple) → Leaves state c → (d : Triple) × Leaves world.now d × step d c)
      → StopsBy step (view_of world) (view_of (either fails world failed done state))
  stops-either step same from =
      elim fails as (λ b. StopsBy step (view_of world) (view_of (either b world failed done state))) [
        | true ↦ stops-unchanged world failed step same
        | false ↦ stops-changed world done state step same from
      ]

  shows-either : IsWellState world.now → IsWellState state → ShowsOne (view_of (either fails world failed done state))
  shows-either well after =
      elim fails as (λ b. ShowsOne (view_of (either b world failed done state))) [
        | true ↦ shows_one (unchanged world failed) well
        | false ↦ shows_one (changed world done state) after
      ]

pub quiet-read : (world : Kept) (fails : Bool) → IsKnown world → IsQuiet (view_of world) (view_of (after_read world fails))
quiet-read world fails known =
    elim fails as (λ b. IsQuiet (view_of world) (view_of (after_read world b))) [
      | true ↦ quiet-unchanged world (area_failed (counted world.meter)) (omega (arith, known.area_count)) (omega arith) (omega arith) (omega (arith, known.call_count))
      | false ↦ quiet-unchanged world (counted world.meter) (omega arith) (omega arith) (omega arith) (omega (arith, known.call_count))
    ]

pub rises-read : (world : Kept) (fails : Bool) → IsKnown world → Rose (view_of world).moment (view_of (after_read world fails)).moment
rises-read world fails known =
    elim fails as (λ b. Rose (view_of world).moment (view_of (after_read world b)).moment) [
      | true ↦ rises-unchanged world (area_failed (counted world.meter)) known.last refl
      | false ↦ rises-unchanged world (counted world.meter) known.last refl
    ]

pub shows-read : (world : Kept) (fails : Bool) → IsWellState world.now → ShowsOne (view_of (after_read world fails))
shows-read world fails well = shows_one (after_read world fails) well

module _ (world : Kept) (known : IsKnown world) where
  may_next : fails_next world.meter ≡ false → world.meter.calls < raised world.meter.calls
  may_next may = next_call world.meter known.most may

  counted-failed : Grows world.meter (area_failed (counted world.meter))
  counted-failed = record { calls = omega (arith, known.call_count); area_faults = omega (arith, known.area_count); put_faults = omega arith; puts = omega arith }

  counted-done : Grows world.meter (counted world.meter)
  counted-done = record { calls = omega (arith, known.call_count); area_faults = omega arith; put_faults = omega arith; puts = omega arith }

  piece-failed : (n : ℕ) → Grows world.meter (area_failed (handed_in world.meter n))
  piece-failed n = record { calls = omega (arith, known.call_count); area_faults = omega (arith, known.area_count); put_faults = omega arith; puts = omega arith }

  piece-done : (n : ℕ) → Grows world.meter (handed_in world.meter n)
  piece-done n = record { calls = omega (arith, known.call_count); area_faults = omega arith; put_faults = omega arith; puts = omega arith }

  module _ (area : Area) (at : ℕ) (piece : List ℕ) (le : at ≤ length (area_of area world.now).bytes) where
    may_write : write_fails world at (length piece) ≡ false → world.meter.calls < raised world.meter.calls
    may_write may = may_next (or_false _ _ (or_false _ _ may).0).0

    pub passes-write : Passes (view_of world) (view_of (after_write_at world area at piece))
    passes-write = passes-either (write_fails world at (length piece)) world (area_failed (handed_in world.meter (length piece))) (handed_in world.meter (length piece)) _ known.last may_write (piece-failed (length piece)) (piece-done (length piece))

    pub rises-write : Rose (view_of world).moment (view_of (after_write_at world area at piece)).moment
    rises-write = rises-either (write_fails world at (length piece)) world (area_failed (handed_in world.meter (length piece))) (handed_in world.meter (length piece)) _ known.last may_write refl

    pub stops-write : StopsBy (Writes area at (length piece)) (view_of world) (view_of (after_write_at world area at piece))
    stops-write = stops-either (write_fails world at (length piece)) world (area_failed (handed_in world.meter (length piece))) (handed_in world.meter (length piece)) _ (Writes area at (length piece)) (writes_same area at (length piece)) (λ c left. write_from area world.now at piece c known.well le left)

    pub shows-write : ShowsOne (view_of (after_write_at world area at piece))
    shows-write = shows-either (write_fails world at (length piece)) world (area_failed (handed_in world.meter (length piece))) (handed_in world.meter (length piece)) _ known.well (well-write area world.now at piece known.well le)

  module _ (area : Area) (len : ℕ) where
    pub passes-cut : Passes (view_of world) (view_of (after_cut_to world area len))
    passes-cut = passes-either (fails_next world.meter) world (area_failed (counted world.meter)) (counted world.meter) _ known.last may_next counted-failed counted-done

    pub rises-cut : Rose (view_of world).moment (view_of (after_cut_to world area len)).moment
    rises-cut = rises-either (fails_next world.meter) world (area_failed (counted world.meter)) (counted world.meter) _ known.last may_next refl

    pub stops-cut : StopsBy (Cuts area len) (view_of world) (view_of (after_cut_to world area len))
    stops-cut = stops-either (fails_next world.meter) world (area_failed (counted world.meter)) (counted world.meter) _ (Cuts area len) (cuts_same area len) (λ c left. cut_from area world.now len c known.well left)

    pub shows-cut : ShowsOne (view_of (after_cut_to world area len))
    shows-cut = shows-either (fails_next world.meter) world (area_failed (counted world.meter)) (counted world.meter) _ known.well (well-cut area world.now len known.well)

  shown-sync : (which : Area) → shown_of (with_area which (on_disk (area_of which world.now).bytes) world.now) ≡ shown_of world.now
  shown-sync A = refl
  shown-sync B = refl

  module _ (area : Area) where
    pub passes-sync : Passes (view_of world) (view_of (after_sync world area))
    passes-sync = passes-either (fails_next world.meter) world (area_failed (counted world.meter)) (counted world.meter) _ known.last may_next counted-failed counted-done

    pub rises-sync : Rose (view_of world).moment (view_of (after_sync world area)).moment
    rises-sync = rises-either (fails_next world.meter) world (area_failed (counted world.meter)) (counted world.meter) _ known.last may_next refl

    -- what is left since a sync could be left before it
    since-sync : (b : Bool) (c : Triple) → (view_of (either b world (area_failed (counted world.meter)) (counted world.meter) (with_area area (on_disk (area_of area world.now).bytes) world.now))).left_since (view_of world).moment c → Leaves world.now c
    since-sync true c left = (timed_kept world).only_now c left
    since-sync false c left =
        ⊎_elim ((timed_kept world).only_now c) (sync_from area world.now c known.well)
        (since_push world.past (record { moment = world.meter.calls; state = world.now }) (with_area area (on_disk (area_of area world.now).bytes) world.now) (view_of world).moment c left)

    shown-either : (b : Bool) → (view_of (either b world (area_failed (counted world.meter)) (counted world.meter) (with_area area (on_disk (area_of area world.now).bytes) world.now))).shown ≡ (view_of world).shown
    shown-either true = refl
    shown-either false = shown-sync area

    pub quiet-sync : IsQuiet (view_of world) (view_of (after_sync world area))
    quiet-sync = record { passes = passes-sync; shown = shown-either (fails_next world.meter); stops = λ honest c left. since-sync (fails_next world.meter) c left }

    pub shows-sync : ShowsOne (view_of (after_sync world area))
    shows-sync = shows-either (fails_next world.meter) world (area_failed (counted world.meter)) (counted world.meter) _ known.well (well-sync area world.now known.well)

  module _ (piece : List ℕ) where
    may_put : refuses world.meter (length piece) ≡ false → world.meter.calls < raised world.meter.calls
    may_put may = may_next (or_false _ _ may).0

    put-failed : Grows world.meter (put_failed (handed_in world.meter (length piece)))
    put-failed = record { calls = omega (arith, known.call_count); area_faults = omega arith; put_faults = omega (arith, known.put_count); puts = omega arith }

    put-counted : Grows world.meter (put_done (handed_in world.meter (length piece)))
    put-counted = record { calls = omega (arith, known.call_count); area_faults = omega arith; put_faults = omega arith; puts = omega arith }

    pub passes-put : Passes (view_of world) (view_of (after_put world piece))
    passes-put = passes-either (refuses world.meter (length piece)) world (put_failed (handed_in world.meter (length piece))) (put_done (handed_in world.meter (length piece))) _ known.last may_put put-failed put-counted

    pub rises-put : Rose (view_of world).moment (view_of (after_put world piece)).moment
    rises-put = rises-either (refuses world.meter (length piece)) world (put_failed (handed_in world.meter (length piece))) (put_done (handed_in world.meter (length piece))) _ known.last may_put refl

    pub stops-put : StopsBy (PutsFront piece) (view_of world) (view_of (after_put world piece))
    stops-put = stops-either (refuses world.meter (length piece)) world (put_failed (handed_in world.meter (length piece))) (put_done (handed_in world.meter (length piece))) _ (PutsFront piece) (puts_same piece) (put_from world.now piece)

    pub shows-put : ShowsOne (view_of (after_put world piece))
    shows-put = shows-either (refuses world.meter (length piece)) world (put_failed (handed_in world.meter (length piece))) (put_done (handed_in world.meter (length piece))) _ known.well (record { a = known.well.a; b = known.well.b })

-- what holds where a call that did its work answers Ok
pub on_ok_did : {T E : Type 0} (r : Result T E) (did : Bool) (P : Type 0) → is_err r ≡ not did → (did ≡ true → P) → OnOk r P
on_ok_did (Ok x) true P is given = given refl
on_ok_did (Ok x) false P is given = absurd (false≢true is)
on_ok_did (Err e) did P is given = tt

-- a world that was just made is settled
pub settled_begun : (a b : List ℕ) (room most : ℕ) (fail : List ℕ) → IsSettled (view_of (begun a b room most fail))
settled_begun a b room most fail =
    record {
      honest = refl;
      tells_bytes = refl;
      a = λ c left. only_image a c.a left.a;
      b = λ c left. only_image b c.b left.b;
    }

pub part_within : (area : Area) (state : State) (at : ℕ) → at ≤ length (part area (shown_of state)) → at ≤ length (area_of area state).bytes
part_within A state at le = le
part_within B state at le = le
