use Rattle.std.proofs.Common.{◌≡◌, ℕ, ◌+◌, ◌-◌, ◌*◌, ◌^◌, ◌≤◌, Option, drop}
use Rattle.pgs_journal.specs.Bounds.{IsBoundedStore}
use Rattle.pgs_snapshot.specs.Saved.{replay}
use Rattle.pgs_store.specs.Recovers.{replayed_in}
use Rattle.pgs_store.proofs.recovering.replay.Given as goal

abbrev pub invariant-loop-payload : goal.invariant-loop-payload
invariant-loop-payload g l = record {
  left : l.payload-iterator.rest.items ≡ drop l.number l.fn.payloads;
  same : replay l.fn.guard.limits (l.number + 1) (replayed_in l.guard) (drop l.number l.fn.payloads)
      ≡ replay l.fn.guard.limits 2 (replayed_in l.fn.guard) (drop 1 l.fn.payloads);
  limits : l.guard.limits ≡ l.fn.guard.limits;
  seed : l.guard.seed ≡ l.fn.guard.seed;
  few : (epoch end : ℕ) (next : Option ℕ) → IsBoundedStore epoch end next l.fn.payloads → l.guard.commits + 1 ≤ (epoch - 1) * 2 ^ 40 + l.number;
  some : 1 ≤ l.number;
}
