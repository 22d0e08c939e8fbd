use Rattle.std.proofs.Common.{ℕ, ◌-◌, ◌<◌, ◌≤◌, length, take}
use Rattle.std.specs.List.{flat_map}
use Rattle.pgs_tables_edges.specs.Numbers.{number_at}
use Rattle.pgs_tables_edges.proofs.chunks.part_for.Given as goal

abbrev pub invariant-loop-high : goal.invariant-loop-high
invariant-loop-high l = record {
  apart : l.low < l.high;
  in_range : l.high ≤ length l.parts;
  below : (k : ℕ) → k < length (flat_map (λ part. part.ids) (take l.low l.parts)) → number_at (flat_map (λ part. part.ids) l.parts) k < l.id.0;
  above : (k : ℕ) → length (flat_map (λ part. part.ids) (take l.high l.parts)) ≤ k → k < length (flat_map (λ part. part.ids) l.parts) → l.id.0 < number_at (flat_map (λ part. part.ids) l.parts) k;
}

abbrev pub decreases-loop-high : goal.decreases-loop-high
decreases-loop-high l = l.high - l.low
