-- What a world in memory says of stops, from one state to the next.
use Rattle.std.proofs.Common.{◌≡◌, ◌⊎◌, inl, inr, ⊎_elim, ℕ, ◌≤◌, ◌<◌, List, [], ◌∷◌, ◌++◌, length, refl, sym, subst, arith}
use Rattle.std.proofs.lemmas.List.{append-nil}
use Rattle.pgs_world.specs.declared.area.Area.{Area}
use Rattle.pgs_world.specs.declared.area.Area.TheVariants.{A, B}
use Rattle.pgs_world.specs.declared.meter.Meter.{Meter}
use Rattle.pgs_world.specs.Count.{Rose, raised}
use Rattle.pgs_world.specs.World.{Triple, part}
use Rattle.pgs_world.specs.Disk.{IsTorn, IsCutShort, IsSameBeside, Writes, Cuts, PutsFront}
use Rattle.pgs_world.specs.Moment.{Passes, StopsBy, IsQuiet, ShowsOne, IsSynced}
use Rattle.pgs_world.specs.Held.{Held, IsImage, after_write, after_cut, on_disk}
use Rattle.pgs_world.specs.MemWorld.{State, Past, Kept, Leaves, HadLeft, Since, after_all, IsWellState, view_of, area_of, with_area, with_output, shown_of, timed_kept, unchanged, changed}
use Rattle.pgs_world.proofs.Pushes.{after_all-push}
use Rattle.pgs_world.proofs.Images.{torn_from, short_from, only_image, well-on_disk, well-after_write, well-after_cut}

had_push : (t : ℕ) (past : List Past) (p : Past) (c : Triple) → HadLeft t past c → HadLeft t (past ++ p ∷ []) c
had_push t [] p c had = absurd had
had_push t (q ∷ past) p c (inl here) = inl here
had_push t (q ∷ past) p c (inr there) = inr (had_push t past p c there)

had_newest : (t : ℕ) (past : List Past) (p : Past) (c : Triple) → t ≤ p.moment → Leaves p.state c → HadLeft t (past ++ p ∷ []) c
had_newest t [] p c le here = inl (le, here)
had_newest t (q ∷ past) p c le here = inr (had_newest t past p c le here)

had_adds : (t : ℕ) (past : List Past) (p : Past) (c : Triple) → HadLeft t (past ++ p ∷ []) c → HadLeft t past c ⊎ Leaves p.state c
had_adds t [] p c (inl here) = inr here.1
had_adds t [] p c (inr none) = absurd none
had_adds t (q ∷ past) p c (inl here) = inl (inl here)
had_adds t (q ∷ past) p c (inr there) = ⊎_elim (λ had. inl (inr had)) (λ new. inr new) (had_adds t past p c there)

-- what a stop since some moment may have left, in the changed state or before it
pub since_push : (past : List Past) (was : Past) (s : State) (t : ℕ) (c : Triple) → Since s (past ++ was ∷ []) t c → Since was.state past t c ⊎ Leaves s c
since_push past was s t c (inl here) = inr here
since_push past was s t c (inr had) = inl (⊎_elim (λ was. inr was) (λ new. inl new) (had_adds t past was c had))

pub past_push : (past : List Past) (was : Past) (s : State) (t : ℕ) (c : Triple) → t ≤ was.moment → Since was.state past t c → Since s (past ++ was ∷ []) t c
past_push past was s t c le left = inr (⊎_elim (had_newest t past was c le) (had_push t past was c) left)

module _ (world : Kept) (meter : Meter) (area : world.meter.area_faults ≤ meter.area_faults) (put : world.meter.put_faults ≤ meter.put_faults) (puts : world.meter.puts ≤ meter.puts) (calls : world.meter.calls ≤ meter.calls) where
  pub quiet-unchanged : IsQuiet (view_of world) (view_of (unchanged world meter))
  quiet-unchanged =
      record {
        passes = record {
          honest = refl;
          tells_bytes = refl;
          tells_output = refl;
          later = omega arith;
          area_faults = area;
          put_faults = put;
          puts = puts;
          since = λ t c le left. inl left;
          past = λ t c le left. left;
          timed = timed_kept (unchanged world meter);
        };
        shown = refl;
        stops = λ honest c left. (timed_kept world).only_now c left;
      }

  pub passes-changed : (state : State) → after_all world.past ≤ world.meter.calls → world.meter.calls < meter.calls → Passes (view_of world) (view_of (changed world meter state))
  passes-changed state last next =
      record {
        honest = refl;
        tells_bytes = refl;
        tells_output = refl;
        later = omega (arith, after_all-push world.past (record { moment = world.meter.calls; state = world.now }), last, next);
        area_faults = area;
        put_faults = put;
        puts = puts;
        since = λ t c le left. ⊎_elim (λ was. inl was) (λ new. inr (inl new)) (since_push world.past (record { moment = world.meter.calls; state = world.now }) state t c left);
        past = λ t c le left. past_push world.past (record { moment = world.meter.calls; state = world.now }) state t c (omega (arith, le, last)) left;
        timed = timed_kept (changed world meter state);
      }

-- a call that is counted comes to a later moment
pub rises-unchanged : (world : Kept) (meter : Meter) → after_all world.past ≤ world.meter.calls → meter.calls ≡ raised world.meter.calls → Rose (view_of world).moment (view_of (unchanged world meter)).moment
rises-unchanged world meter last is = omega (arith, last, is)

pub rises-changed : (world : Kept) (meter : Meter) (state : State) → after_all world.past ≤ world.meter.calls → world.meter.calls < meter.calls → Rose (view_of world).moment (view_of (changed world meter state)).moment
rises-changed world meter state last next = omega (arith, last, next)

-- each triple since the change comes by the step from one before it
pub stops-changed : (world : Kept) (meter : Meter) (state : State) (step : Triple → Triple → Type 0) → ((c : Triple) → step c c) → ((c : Triple) → Leaves state c → (d : Triple) × Leaves world.now d × step d c)
    → StopsBy step (view_of world) (view_of (changed world meter state))
stops-changed world meter state step same from honest c left =
    ⊎_elim (λ was. (c, (timed_kept world).only_now c was, same c)) (from c) (since_push world.past (record { moment = world.meter.calls; state = world.now }) state (view_of world).moment c left)

-- what was only read is a step that does nothing
pub stops-unchanged : (world : Kept) (meter : Meter) (step : Triple → Triple → Type 0) → ((c : Triple) → step c c) → StopsBy step (view_of world) (view_of (unchanged world meter))
stops-unchanged world meter step same honest c left = (c, (timed_kept world).only_now c left, same c)

torn_same : (at count : ℕ) (image : List ℕ) → IsTorn at count image image
torn_same at count image = record { before = refl; after = refl; no_shorter = omega arith; no_longer = omega arith }

short_same : (len : ℕ) (image : List ℕ) → IsCutShort len image image
short_same len image = record { front = refl; no_shorter = omega arith; no_longer = omega arith }

beside_same : (area : Area) (c : Triple) → IsSameBeside area c c
beside_same area c = record { beside = refl; output = refl }

pub writes_same : (area : Area) (at count : ℕ) (c : Triple) → Writes area at count c c
writes_same area at count c = record { torn = torn_same at count (part area c); same = beside_same area c }

pub cuts_same : (area : Area) (len : ℕ) (c : Triple) → Cuts area len c c
cuts_same area len c = record { short = short_same len (part area c); same = beside_same area c }

pub puts_same : (piece : List ℕ) (c : Triple) → PutsFront piece c c
puts_same piece c = record { a = refl; b = refl; front = []; back = piece; parts = refl; added = sym (append-nil c.output) }

pub write_from : (area : Area) (state : State) (at : ℕ) (piece : List ℕ) (c : Triple) → IsWellState state → at ≤ length (area_of area state).bytes → Leaves (with_area area (after_write (area_of area state) at piece) state) c
    → (d : Triple) × Leaves state d × Writes area at (length piece) d c
write_from A state at piece c well le left =
    let from = torn_from state.a at piece c.a well.a le left.a in (
      record { a = from.0; b = c.b; output = c.output },
      record { a = from.1; b = left.b; output = left.output },
      record { torn = from.2; same = record { beside = refl; output = refl } },
    )
write_from B state at piece c well le left =
    let from = torn_from state.b at piece c.b well.b le left.b in (
      record { a = c.a; b = from.0; output = c.output },
      record { a = left.a; b = from.1; output = left.output },
      record { torn = from.2; same = record { beside = refl; output = refl } },
    )

pub cut_from : (area : Area) (state : State) (len : ℕ) (c : Triple) → IsWellState state → Leaves (with_area area (after_cut (area_of area state) len) state) c → (d : Triple) × Leaves state d × Cuts area len d c
cut_from A state len c well left =
    let from = short_from state.a len c.a well.a left.a in (
      record { a = from.0; b = c.b; output = c.output },
      record { a = from.1; b = left.b; output = left.output },
      record { short = from.2; same = record { beside = refl; output = refl } },
    )
cut_from B state len c well left =
    let from = short_from state.b len c.b well.b left.b in (
      record { a = c.a; b = from.0; output = c.output },
      record { a = left.a; b = from.1; output = left.output },
      record { short = from.2; same = record { beside = refl; output = refl } },
    )

-- what is left after a sync could be left before it
pub sync_from : (area : Area) (state : State) (c : Triple) → IsWellState state → Leaves (with_area area (on_disk (area_of area state).bytes) state) c → Leaves state c
sync_from A state c well left =
    record { a = subst (IsImage state.a) (sym (only_image state.a.bytes c.a left.a)) well.a.image; b = left.b; output = left.output }
sync_from B state c well left =
    record { a = left.a; b = subst (IsImage state.b) (sym (only_image state.b.bytes c.b left.b)) well.b.image; output = left.output }

pub synced_from : (area : Area) (world : Kept) (meter : Meter) → IsSynced area (view_of (changed world meter (with_area area (on_disk (area_of area world.now).bytes) world.now)))
synced_from A world meter honest tells c left = only_image world.now.a.bytes c.a left.a
synced_from B world meter honest tells c left = only_image world.now.b.bytes c.b left.b

pub put_from : (state : State) (piece : List ℕ) (c : Triple) → Leaves (with_output (state.output ++ piece) state) c → (d : Triple) × Leaves state d × PutsFront piece d c
put_from state piece c left = (
  record { a = c.a; b = c.b; output = state.output },
  record { a = left.a; b = left.b; output = refl },
  record { a = refl; b = refl; front = piece; back = []; parts = sym (append-nil piece); added = left.output },
)

-- what a read gives may be left
pub shows_one : (world : Kept) → IsWellState world.now → ShowsOne (view_of world)
shows_one world well honest =
    (shown_of world.now, record { a = well.a.image; b = well.b.image; output = refl }, record { bytes = λ tells area. refl; output = λ tells. refl })

pub well-write : (area : Area) (state : State) (at : ℕ) (piece : List ℕ) → IsWellState state → at ≤ length (area_of area state).bytes → IsWellState (with_area area (after_write (area_of area state) at piece) state)
well-write A state at piece well le = record { a = well-after_write state.a at piece well.a le; b = well.b }
well-write B state at piece well le = record { a = well.a; b = well-after_write state.b at piece well.b le }

pub well-cut : (area : Area) (state : State) (len : ℕ) → IsWellState state → IsWellState (with_area area (after_cut (area_of area state) len) state)
well-cut A state len well = record { a = well-after_cut state.a len well.a; b = well.b }
well-cut B state len well = record { a = well.a; b = well-after_cut state.b len well.b }

pub well-sync : (area : Area) (state : State) → IsWellState state → IsWellState (with_area area (on_disk (area_of area state).bytes) state)
well-sync A state well = record { a = well-on_disk state.a.bytes; b = well.b }
well-sync B state well = record { a = well.a; b = well-on_disk state.b.bytes }

-- what is shown of an area is its bytes
pub part-shown : (area : Area) (state : State) → part area (shown_of state) ≡ (area_of area state).bytes
part-shown A state = refl
part-shown B state = refl

pub part-with_area : (area : Area) (held : Held) (state : State) → part area (shown_of (with_area area held state)) ≡ held.bytes
part-with_area A held state = refl
part-with_area B held state = refl

pub beside-with_area : (area : Area) (held : Held) (state : State) → IsSameBeside area (shown_of state) (shown_of (with_area area held state))
beside-with_area A held state = record { beside = refl; output = refl }
beside-with_area B held state = record { beside = refl; output = refl }
