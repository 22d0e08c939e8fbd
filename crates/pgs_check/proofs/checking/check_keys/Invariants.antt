use Rattle.std.proofs.Common.{◌≡◌, ◌+◌, ◌*◌, ◌^◌, ◌≤◌, ℕ, drop, length}
use Rattle.pgs_violation.specs.Violations.{keys_violations}
use Rattle.pgs_check_affected.specs.Touched.{touched, AreSparse}
use Rattle.pgs_check.specs.Costs.{HaveEdgesWithin}
use Rattle.pgs_check.specs.Standing.{AreChanges}
use Rattle.pgs_check.proofs.checking.check_keys.Given as goal

abbrev pub invariant-loop-place : goal.invariant-loop-place
invariant-loop-place g l = record {
  so_far : keys_violations l.compiled l.new (l.place + 1) (drop l.place l.keys) ≡ keys_violations l.compiled l.new 1 l.keys;
  changes : AreChanges l.compiled l.change.before l.new l.compiled.guard.keys l.place l.changes.items;
  within : l.place ≤ length l.keys;
  no_step_back : l.fn.steps ≤ l.steps;
  cost : (edges most : ℕ) → HaveEdgesWithin l.keys edges → AreSparse l.change.before l.change.after (2 * edges) (touched l.change.before l.change.elems) most →
      l.steps ≤ l.fn.steps + l.place * (2048 * length (touched l.change.before l.change.elems) * (most + 2) ^ (2 * edges + 2));
}
