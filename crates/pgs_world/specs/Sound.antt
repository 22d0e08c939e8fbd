-- What the fields of a world in memory stand for, and what they keep.
use Rattle.std.specs.Prelude.{◌≡◌, ℕ, ◌+◌, ◌^◌, ◌<◌, ◌≤◌, [], length, vec_capacity}
use Rattle.pgs_world.specs.declared.area.Area.{Area}
use Rattle.pgs_world.specs.declared.mem_world.MemWorld.TheInside.{Inside}
use Rattle.pgs_world.specs.Held.{IsWell, on_disk}
use Rattle.pgs_world.specs.History.{all_taken, outcome, history}
use Rattle.pgs_world.specs.MemArea.{held_of, area_in, state_of, size_in, HasRoom}
use Rattle.pgs_world.specs.MemWorld.{State, Kept, after_all}

-- the state that it began with
abbrev pub first_of : Inside → State
first_of world = record { a = on_disk world.first_a; b = on_disk world.first_b; output = [] }

abbrev pub kept_of : Inside → Kept
kept_of world =
    record {
      past = history (first_of world) world.notes.items world.pieces.items;
      now = state_of world.contents;
      meter = world.meter;
    }

-- the size that this area had at first
abbrev pub first_size : Inside → Area → ℕ
first_size world area = size_in area (length world.first_a) (length world.first_b)

pub record IsSound (world : Inside) : Type 0 where
  -- the calls lead from the first contents to those that are there
  pub now : outcome (first_of world) world.notes.items world.pieces.items ≡ state_of world.contents
  pub taken : all_taken world.notes.items ≡ length world.pieces.items
  pub well : (area : Area) → IsWell (held_of (area_in area world.contents))
  -- there is memory for as many calls and bytes as there is room for
  pub grown : (area : Area) → (area_in area world.contents).greatest ≤ first_size world area + length world.pieces.items
  pub areas_room : (area : Area) → HasRoom (first_size world area + world.meter.room) (area_in area world.contents)
  pub output_fits : length world.contents.output.items ≤ world.meter.handed
  pub output_room : world.meter.room ≤ vec_capacity world.contents.output
  pub pieces_fit : length world.pieces.items ≤ world.meter.handed
  pub pieces_room_left : length world.pieces.items ≤ world.meter.room
  pub pieces_room : world.meter.room ≤ vec_capacity world.pieces
  pub notes_fit : length world.notes.items ≤ world.meter.calls
  -- no more puts succeeded than calls changed it
  pub puts_fit : world.meter.puts ≤ length world.notes.items
  pub notes_room : world.meter.room ≤ vec_capacity world.notes
  -- no call that changed it began later
  pub last : after_all (history (first_of world) world.notes.items world.pieces.items) ≤ world.meter.calls
  -- counts are u64
  pub call_count : world.meter.calls < 2 ^ 64
  pub area_count : world.meter.area_faults < 2 ^ 64
  pub put_count : world.meter.put_faults < 2 ^ 64
  pub most : world.meter.most ≤ world.meter.room
  pub small : world.meter.room ≤ 2 ^ 32
