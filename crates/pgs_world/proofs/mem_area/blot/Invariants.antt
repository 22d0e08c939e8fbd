use Rattle.std.proofs.Common.{◌≡◌, ◌≤◌, vec_capacity}
use Rattle.pgs_world.specs.Held.{blotted}
use Rattle.pgs_world.proofs.mem_area.blot.Given as goal

abbrev pub invariant-loop-done : goal.invariant-loop-done
invariant-loop-done l = record {
  items : l.kept.items ≡ blotted l.at l.done l.fn.kept.items;
  capacity : vec_capacity l.fn.kept ≤ vec_capacity l.kept;
}
