use Rattle.std.proofs.Common.{◌≡◌, ◌<◌, ℕ, length}
use Rattle.pgs_resolve_order.specs.Links.{stays, is_set}
use Rattle.pgs_resolve_order.proofs.cycles.staying.Given as goal

abbrev pub invariant-loop-number : goal.invariant-loop-number
invariant-loop-number l = record {
  len : length l.flags.items ≡ l.number;
  flags : (number : ℕ) → number < l.number → is_set l.flags.items number ≡ stays l.rows l.ranks number;
}
