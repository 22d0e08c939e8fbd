use Rattle.std.proofs.Common.{◌≡◌, ◌++◌, replicate}
use Rattle.pgs_world.proofs.mem_area.padded_image.Given as goal

abbrev pub invariant-loop-place : goal.invariant-loop-place
invariant-loop-place l = l.all.items ≡ l.fn.image.items ++ replicate l.place l.byte
