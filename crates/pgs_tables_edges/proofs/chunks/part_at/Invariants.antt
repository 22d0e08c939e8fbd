use Rattle.std.proofs.Common.{◌-◌, ◌<◌, ◌≤◌, length, take}
use Rattle.std.specs.List.{flat_map}
use Rattle.pgs_tables_edges.proofs.chunks.part_at.Given as goal

abbrev pub invariant-loop-high : goal.invariant-loop-high
invariant-loop-high l = record {
  apart : l.low < l.high;
  in_range : l.high ≤ length l.parts;
  before : length (flat_map (λ part. part.ids) (take l.low l.parts)) ≤ l.place;
  after : l.place < length (flat_map (λ part. part.ids) (take l.high l.parts));
}

abbrev pub decreases-loop-high : goal.decreases-loop-high
decreases-loop-high l = l.high - l.low
