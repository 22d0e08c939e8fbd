use Rattle.std.proofs.Common.{◌≡◌, ◌<◌, ℕ, true}
use Rattle.pgs_resolve_order.specs.Links.{never_falls}
use Rattle.pgs_resolve_order.proofs.cycles.all_rise.Given as goal

abbrev pub invariant-loop-number : goal.invariant-loop-number
invariant-loop-number l = (number : ℕ) → number < l.number → never_falls l.rows l.ranks number ≡ true
