-- A call that changes a world in memory leaves its fields sound.
use Rattle.std.proofs.Common.{◌≡◌, ℕ, ◌+◌, ◌^◌, ◌<◌, ◌≤◌, List, [], ◌∷◌, ◌++◌, length, refl, sym, ◌∙◌, ap, subst, arith, length-append, vec_capacity, Vec, Bool, true, false, not, ◌||◌, nat_lt}
use Rattle.std.proofs.lemmas.Bool.{false≢true}
use Rattle.std.proofs.lemmas.Bool.Decides.{nat_tests}
use Rattle.std.specs.declared.alloc.Global.{Global}
use Rattle.pgs_world.specs.declared.area.Area.{Area}
use Rattle.pgs_world.specs.declared.area.Area.TheVariants.{A, B}
use Rattle.pgs_world.specs.declared.meter.Meter.{Meter}
use Rattle.pgs_world.specs.declared.mem_contents.Contents.{Contents}
use Rattle.pgs_world.specs.declared.mem_contents.Note.{Note}
use Rattle.pgs_world.specs.declared.mem_contents.Noted.{Noted}
use Rattle.pgs_world.specs.declared.mem_world.MemWorld.TheInside.{Inside}
use Rattle.pgs_world.specs.Held.{IsWell, after_write, after_cut, on_disk}
use Rattle.pgs_world.specs.History.{taken_by, after_note, all_taken, outcome, history}
use Rattle.pgs_world.specs.MemArea.{held_of, area_in, state_of, size_in, HasRoom}
use Rattle.pgs_world.specs.MemWorld.{State, Past, Kept, after_all, IsWellState, IsKnown, area_of, with_area, with_output, changed, fails_next, refuses, handed_with, counted, handed_in, put_done, write_fails, after_write_at, after_cut_to, after_sync, after_put}
use Rattle.pgs_world.specs.Count.{raised}
use Rattle.pgs_world.specs.Sound.{first_of, kept_of, first_size, IsSound}
use Rattle.pgs_world.proofs.Images.{well-on_disk}
use Rattle.pgs_world.proofs.Pushes.{all_taken-push, outcome-push, history-push, after_all-push}

pub area-state : (area : Area) (contents : Contents) → area_of area (state_of contents) ≡ held_of (area_in area contents)
area-state A contents = refl
area-state B contents = refl

pub well_state : (contents : Contents) → ((area : Area) → IsWell (held_of (area_in area contents))) → IsWellState (state_of contents)
well_state contents well = record { a = well A; b = well B }

well_areas : (contents : Contents) → IsWellState (state_of contents) → (area : Area) → IsWell (held_of (area_in area contents))
well_areas contents well A = well.a
well_areas contents well B = well.b

-- no area grew by more than this
abbrev pub GrowsBy : ℕ → State → State → Type 0
GrowsBy count old new = (area : Area) → (area_of area new).greatest ≤ (area_of area old).greatest + count

pub grows-write : (area : Area) (state : State) (at : ℕ) (piece : List ℕ) → IsWellState state → at ≤ length (area_of area state).bytes → GrowsBy (length piece) state (with_area area (after_write (area_of area state) at piece) state)
grows-write A state at piece well le A = omega (arith, well.a.image.no_longer)
grows-write A state at piece well le B = omega arith
grows-write B state at piece well le A = omega arith
grows-write B state at piece well le B = omega (arith, well.b.image.no_longer)

pub grows-cut : (area : Area) (state : State) (len : ℕ) → GrowsBy 0 state (with_area area (after_cut (area_of area state) len) state)
grows-cut A state len A = omega arith
grows-cut A state len B = omega arith
grows-cut B state len A = omega arith
grows-cut B state len B = omega arith

pub grows-sync : (area : Area) (state : State) → IsWellState state → GrowsBy 0 state (with_area area (on_disk (area_of area state).bytes) state)
grows-sync A state well A = omega (arith, well.a.image.no_longer)
grows-sync A state well B = omega arith
grows-sync B state well A = omega arith
grows-sync B state well B = omega (arith, well.b.image.no_longer)

pub grows-put : (state : State) (piece : List ℕ) → GrowsBy (length piece) state (with_output (state.output ++ piece) state)
grows-put state piece A = omega arith
grows-put state piece B = omega arith

grown_in : (area : Area) (old new : Contents) (count bound : ℕ) → GrowsBy count (state_of old) (state_of new) → (area_in area old).greatest ≤ bound → (area_in area new).greatest ≤ bound + count
grown_in A old new count bound grows le = omega (arith, grows A)
grown_in B old new count bound grows le = omega (arith, grows B)

abbrev kept_with : Meter → List Past → State → Kept
kept_with meter past now = record { past = past; now = now; meter = meter }

-- What a call that changes the world does to its fields.
pub record Changes (old : Inside) (contents : Contents) (notes : Vec Noted Global) (pieces : Vec ℕ Global) (meter : Meter) (call : Note) (piece : List ℕ) : Type 0 where
  pub size : length piece ≡ taken_by call
  pub state : state_of contents ≡ after_note call piece (state_of old.contents)
  pub well : IsWellState (after_note call piece (state_of old.contents))
  pub grows : GrowsBy (length piece) (state_of old.contents) (after_note call piece (state_of old.contents))
  pub areas_room : (area : Area) (bytes : ℕ) → HasRoom bytes (area_in area old.contents) → HasRoom bytes (area_in area contents)
  pub output_fits : length contents.output.items ≤ length old.contents.output.items + length piece
  pub output_room : vec_capacity old.contents.output ≤ vec_capacity contents.output
  pub added : notes.items ≡ old.notes.items ++ (record { before = old.meter.calls; note = call }) ∷ []
  pub handed_over : pieces.items ≡ old.pieces.items ++ piece
  pub notes_room : vec_capacity old.notes ≤ vec_capacity notes
  pub pieces_room : vec_capacity old.pieces ≤ vec_capacity pieces
  pub handed : old.meter.handed + length piece ≤ meter.handed
  pub calls : old.meter.calls + 1 ≤ meter.calls
  pub call_count : meter.calls < 2 ^ 64
  pub area_count : meter.area_faults ≡ old.meter.area_faults
  pub put_count : meter.put_faults ≡ old.meter.put_faults
  pub puts : meter.puts ≤ old.meter.puts + 1
  pub room_left : length old.pieces.items + length piece ≤ meter.room
  pub room : meter.room ≡ old.meter.room
  pub most : meter.most ≡ old.meter.most

module _ (old : Inside) (contents : Contents) (notes : Vec Noted Global) (pieces : Vec ℕ Global) (meter : Meter) (call : Note) (piece : List ℕ) (sound : IsSound old) (change : Changes old contents notes pieces meter call piece) where
  new : Inside
  new = record { first_a = old.first_a; first_b = old.first_b; contents = contents; notes = notes; pieces = pieces; meter = meter }

  abbrev noted : Noted
  noted = record { before = old.meter.calls; note = call }

  lengths : length pieces.items ≡ length old.pieces.items + length piece
  lengths = ap length change.handed_over ∙ length-append old.pieces.items piece

  counts : length notes.items ≡ length old.notes.items + 1
  counts = ap length change.added ∙ length-append old.notes.items (noted ∷ [])

  abbrev was : Past
  was = record { moment = old.meter.calls; state = state_of old.contents }

  past-changed : history (first_of old) notes.items pieces.items ≡ history (first_of old) old.notes.items old.pieces.items ++ was ∷ []
  past-changed =
      ap (λ (l : List Noted). history (first_of old) l pieces.items) change.added ∙ ap (λ (l : List ℕ). history (first_of old) (old.notes.items ++ noted ∷ []) l) change.handed_over
      ∙ history-push old.meter.calls call piece change.size (first_of old) old.notes.items old.pieces.items sound.taken
      ∙ ap (λ s. history (first_of old) old.notes.items old.pieces.items ++ (record { moment = old.meter.calls; state = s }) ∷ []) sound.now

  pub sound-changed : IsSound (record { first_a = old.first_a; first_b = old.first_b; contents = contents; notes = notes; pieces = pieces; meter = meter })
  sound-changed =
      record {
        now = ap (λ (l : List Noted). outcome (first_of old) l pieces.items) change.added ∙ ap (λ (l : List ℕ). outcome (first_of old) (old.notes.items ++ noted ∷ []) l) change.handed_over
            ∙ outcome-push old.meter.calls call piece change.size (first_of old) old.notes.items old.pieces.items sound.taken ∙ ap (λ s. after_note call piece s) sound.now ∙ sym change.state;
        taken = ap all_taken change.added ∙ all_taken-push old.meter.calls call piece change.size old.notes.items ∙ ap (λ n. n + length piece) sound.taken ∙ sym lengths;
        well = well_areas contents (subst IsWellState (sym change.state) change.well);
        grown = λ area. omega (arith, lengths, grown_in area old.contents contents (length piece) (first_size old area + length old.pieces.items) (subst (λ s. GrowsBy (length piece) (state_of old.contents) s) (sym change.state) change.grows) (sound.grown area));
        areas_room = λ area. change.areas_room area (first_size old area + meter.room) (subst (λ n. HasRoom (first_size old area + n) (area_in area old.contents)) (sym change.room) (sound.areas_room area));
        output_fits = omega (arith, sound.output_fits, change.output_fits, change.handed);
        output_room = omega (arith, sound.output_room, change.output_room, change.room);
        pieces_fit = omega (arith, lengths, sound.pieces_fit, change.handed);
        pieces_room_left = omega (arith, lengths, change.room_left);
        pieces_room = omega (arith, sound.pieces_room, change.pieces_room, change.room);
        notes_fit = omega (arith, counts, sound.notes_fit, change.calls);
        puts_fit = omega (arith, counts, sound.puts_fit, change.puts);
        notes_room = omega (arith, sound.notes_room, change.notes_room, change.room);
        last = omega (arith, ap after_all past-changed, after_all-push (history (first_of old) old.notes.items old.pieces.items) was, sound.last, change.calls);
        call_count = change.call_count;
        area_count = omega (arith, sound.area_count, change.area_count);
        put_count = omega (arith, sound.put_count, change.put_count);
        most = omega (arith, sound.most, change.most, change.room);
        small = omega (arith, sound.small, change.room);
      }

  pub kept-changed : kept_of (record { first_a = old.first_a; first_b = old.first_b; contents = contents; notes = notes; pieces = pieces; meter = meter }) ≡ changed (kept_of old) meter (after_note call piece (state_of old.contents))
  kept-changed = ap (λ (l : List Past). kept_with meter l (state_of contents)) past-changed ∙ ap (λ s. kept_with meter (history (first_of old) old.notes.items old.pieces.items ++ was ∷ []) s) change.state

pub or_false : (x y : Bool) → (x || y) ≡ false → (x ≡ false) × (y ≡ false)
or_false true y is = absurd (false≢true (sym is))
or_false false y is = (refl, is)

not_true : (x : Bool) → not x ≡ true → x ≡ false
not_true true is = absurd (false≢true is)
not_true false is = refl

pub lt_false : (m n : ℕ) → nat_lt m n ≡ false → n ≤ m
lt_false m n is = grind (arith, nat_tests)

-- a call that was admitted is one of those that there is room for
pub calls-admitted : (meter : Meter) → not (fails_next meter) ≡ true → raised meter.calls ≤ meter.most
calls-admitted meter admits = lt_false _ _ (or_false _ _ (not_true _ admits)).1

pub calls-admitted_piece : (meter : Meter) (count : ℕ) → not (refuses meter count) ≡ true → raised meter.calls ≤ meter.most
calls-admitted_piece meter count admits = lt_false _ _ (or_false _ _ (or_false _ _ (not_true _ admits)).0).1

-- and so is its piece
pub handed-admitted : (meter : Meter) (count : ℕ) → not (refuses meter count) ≡ true → handed_with meter.handed count ≤ meter.room
handed-admitted meter count admits = lt_false _ _ (or_false _ _ (not_true _ admits)).1

pub write-done : (world : Kept) (area : Area) (at : ℕ) (piece : List ℕ) → not (write_fails world at (length piece)) ≡ true
    → after_write_at world area at piece ≡ changed world (handed_in world.meter (length piece)) (with_area area (after_write (area_of area world.now) at piece) world.now)
write-done world area at piece admits = rw (not_true (write_fails world at (length piece)) admits) refl

-- the fields of a sound world stand for one that is known
pub known_kept : (world : Inside) (kept : Kept) → kept_of world ≡ kept → IsSound world → IsKnown kept
known_kept world kept is sound =
    subst IsKnown is (record { well = well_state world.contents sound.well; area_count = sound.area_count; put_count = sound.put_count; call_count = sound.call_count; last = sound.last; most = omega (arith, sound.most, sound.small) })

-- a sync has memory for the bytes that are there, since no more were handed in than there is room for
pub synced_room : (world : Inside) (area : Area) → IsSound world → HasRoom (length (area_in area world.contents).bytes.items) (area_in area world.contents)
synced_room world area sound =
    let room = sound.areas_room area in
    let few : length (area_in area world.contents).bytes.items ≤ first_size world area + world.meter.room = omega (arith, sound.grown area, (sound.well area).image.no_longer, sound.pieces_room_left) in
    record {
      bytes = omega (arith, few, room.bytes);
      synced = omega (arith, few, room.synced);
      kept = omega (arith, few, room.kept);
      within = room.within;
      same = room.same;
      same_kept = room.same_kept;
    }

pub cut-done : (world : Kept) (area : Area) (len : ℕ) → not (fails_next world.meter) ≡ true
    → after_cut_to world area len ≡ changed world (counted world.meter) (with_area area (after_cut (area_of area world.now) len) world.now)
cut-done world area len admits = rw (not_true (fails_next world.meter) admits) refl

pub sync-done : (world : Kept) (area : Area) → not (fails_next world.meter) ≡ true
    → after_sync world area ≡ changed world (counted world.meter) (with_area area (on_disk (area_of area world.now).bytes) world.now)
sync-done world area admits = rw (not_true (fails_next world.meter) admits) refl

pub put-done : (world : Kept) (piece : List ℕ) → not (refuses world.meter (length piece)) ≡ true
    → after_put world piece ≡ changed world (put_done (handed_in world.meter (length piece))) (with_output (world.now.output ++ piece) world.now)
put-done world piece admits = rw (not_true (refuses world.meter (length piece)) admits) refl

-- the fields of a world that was just made
pub sound_begun : (a b : List ℕ) (contents : Contents) (notes : Vec Noted Global) (pieces : Vec ℕ Global) (meter : Meter) → state_of contents ≡ record { a = on_disk a; b = on_disk b; output = [] }
    → ((area : Area) → HasRoom (size_in area (length a) (length b) + meter.room) (area_in area contents)) → meter.room ≤ vec_capacity contents.output → notes.items ≡ [] → pieces.items ≡ []
    → meter.room ≤ vec_capacity notes → meter.room ≤ vec_capacity pieces → meter.most ≤ meter.room → meter.room ≤ 2 ^ 32 → meter.calls ≡ 0 → meter.area_faults ≡ 0 → meter.put_faults ≡ 0 → meter.puts ≡ 0
    → IsSound (record { first_a = a; first_b = b; contents = contents; notes = notes; pieces = pieces; meter = meter })
sound_begun a b contents notes pieces meter state rooms output no_notes no_pieces notes_room pieces_room most small no_calls no_area no_put no_puts =
    record {
      now = ap (λ (l : List Noted). outcome first l pieces.items) no_notes ∙ sym state;
      taken = ap all_taken no_notes ∙ sym (ap length no_pieces);
      well = well_areas contents (subst IsWellState (sym state) (record { a = well-on_disk a; b = well-on_disk b }));
      grown = grown;
      areas_room = rooms;
      output_fits = omega (arith, ap (λ (s : State). length s.output) state);
      output_room = output;
      pieces_fit = omega (arith, ap length no_pieces);
      pieces_room_left = omega (arith, ap length no_pieces);
      pieces_room = pieces_room;
      notes_fit = omega (arith, ap length no_notes);
      puts_fit = omega (arith, no_puts);
      notes_room = notes_room;
      last = omega (arith, ap (λ (l : List Noted). after_all (history first l pieces.items)) no_notes);
      call_count = omega (arith, no_calls);
      area_count = omega (arith, no_area);
      put_count = omega (arith, no_put);
      most = most;
      small = small;
    }
  where
    first : State
    first = record { a = on_disk a; b = on_disk b; output = [] }

    grown : (area : Area) → (area_in area contents).greatest ≤ size_in area (length a) (length b) + length pieces.items
    grown A = omega (arith, ap (λ (s : State). s.a.greatest) state)
    grown B = omega (arith, ap (λ (s : State). s.b.greatest) state)
