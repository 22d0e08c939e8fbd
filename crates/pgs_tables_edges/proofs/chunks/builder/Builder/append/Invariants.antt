use Rattle.std.proofs.Common.{◌≡◌, ◌+◌, ◌≤◌, ◌++◌, length}
use Rattle.pgs_tables_edges.proofs.chunks.builder.Builder.append.Given as goal

abbrev pub invariant-loop-left : goal.invariant-loop-left
invariant-loop-left l = record {
  appended : l.self.ids ++ l.left ≡ l.fn.self.ids ++ l.ids;
  copied : l.fn.copies + length l.left ≤ l.copies + length l.ids;
}

abbrev pub decreases-loop-left : goal.decreases-loop-left
decreases-loop-left l = length l.left
