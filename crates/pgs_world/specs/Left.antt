-- Three kinds of image that a stop may leave of an area in memory.
use Rattle.std.specs.Prelude.{List, ℕ, length, take}
use Rattle.pgs_world.specs.declared.leave.Leave.{Leave}
use Rattle.pgs_world.specs.declared.leave.Leave.TheVariants.{Old, New, Fill}
use Rattle.pgs_world.specs.Held.{Held, filled}

abbrev pub left_of : Leave → Held → List ℕ
left_of Old held = take (length held.kept) held.synced
left_of New held = held.bytes
left_of (Fill byte) held = filled byte held.kept held.greatest
