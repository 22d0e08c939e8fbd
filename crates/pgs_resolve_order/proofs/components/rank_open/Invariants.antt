use Rattle.std.proofs.Common.{◌≡◌, ◌≤◌, ℕ, List, length}
use Rattle.pgs_resolve_order.specs.Searching.{unseen_work}
use Rattle.pgs_resolve_order.proofs.components.rank_open.Given as goal

abbrev pub invariant-loop-passed : goal.invariant-loop-passed
invariant-loop-passed l = record {
  len : length l.marks.items ≡ length l.fn.marks.items;
  work : (rows : List (List ℕ)) → unseen_work rows l.marks.items ≤ unseen_work rows l.fn.marks.items;
}
