use Rattle.std.proofs.Common.{◌≡◌, ◌<◌, ◌==◌, ◌&&◌, ℕ, length}
use Rattle.pgs_resolve_order.specs.Links.{leads_back, first_of, is_set}
use Rattle.pgs_resolve_order.proofs.cycles.leading_back.Given as goal

abbrev pub invariant-loop-number : goal.invariant-loop-number
invariant-loop-number l = record {
  len : length l.flags.items ≡ l.number;
  flags : (number : ℕ) → number < l.number → is_set l.flags.items number ≡ (first_of l.names number == number && leads_back l.rows number);
}
