-- The areas of a world in memory, as its fields hold them.
use Rattle.std.specs.Prelude.{◌≡◌, length, take, ℕ, ◌≤◌, vec_capacity}
use Rattle.pgs_world.specs.declared.area.Area.{Area}
use Rattle.pgs_world.specs.declared.area.Area.TheVariants.{A, B}
use Rattle.pgs_world.specs.declared.mem_area.MemArea.{MemArea}
use Rattle.pgs_world.specs.declared.mem_contents.Contents.{Contents}
use Rattle.pgs_world.specs.Held.{Held, all_kept}
use Rattle.pgs_world.specs.MemWorld.{State}

abbrev pub held_of : MemArea → Held
held_of area = record { bytes = area.bytes.items; synced = area.synced.items; kept = area.kept.items; greatest = area.greatest }

-- it has memory for so many bytes, and knows where they changed
pub record HasRoom (size : ℕ) (area : MemArea) : Type 0 where
  pub bytes : size ≤ vec_capacity area.bytes
  pub synced : size ≤ vec_capacity area.synced
  pub kept : size ≤ vec_capacity area.kept
  -- below this place nothing was changed since the last sync
  pub within : area.low ≤ length area.bytes.items
  pub same : take area.low area.synced.items ≡ take area.low area.bytes.items
  pub same_kept : take area.low area.kept.items ≡ all_kept (take area.low area.bytes.items)

abbrev pub area_in : Area → Contents → MemArea
area_in A contents = contents.a
area_in B contents = contents.b

abbrev pub state_of : Contents → State
state_of contents = record { a = held_of contents.a; b = held_of contents.b; output = contents.output.items }

-- the size of this area, of these two
abbrev pub size_in : Area → ℕ → ℕ → ℕ
size_in A a b = a
size_in B a b = b
