use Rattle.std.proofs.Common.{◌≡◌, ◌<◌, ℕ, length, slice_index}
use Rattle.pgs_key_standing.specs.Joint.{beside}
use Rattle.pgs_key_standing.proofs.renaming.beside_table.Given as goal

abbrev pub invariant-loop-var : goal.invariant-loop-var
invariant-loop-var l = record { size : length l.table.items ≡ l.var; numbers : (n : ℕ) → n < l.var → slice_index l.table.items n ≡ beside l.count n }
