use Rattle.std.proofs.Common.{◌≡◌, map, Some}
use Rattle.pgs_saved_graph.proofs.filling.added.Given as goal

abbrev pub invariant-loop-key : goal.invariant-loop-key
invariant-loop-key g l = l.changes.items ≡ map (λ row. (row.0, Some row.1)) l.yielded
