use Rattle.std.proofs.Common.{◌≡◌, ◌++◌, ◌≤◌, take, vec_capacity}
use Rattle.pgs_world.specs.Held.{all_kept}
use Rattle.pgs_world.proofs.mem_area.keep_all.Given as goal

abbrev pub invariant-loop-byte : goal.invariant-loop-byte
invariant-loop-byte l = record {
  items : l.kept.items ≡ l.fn.kept.items ++ all_kept (take l.byte-index l.bytes);
  capacity : vec_capacity l.fn.kept ≤ vec_capacity l.kept;
}
