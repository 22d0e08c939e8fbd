use Rattle.std.proofs.Common.{◌≡◌, ◌≤◌, ◌-◌, ◌++◌, length, drop}
use Rattle.pgs_parser.specs.Literal.{with_single_quotes}
use Rattle.pgs_parser.proofs.literal.with_single_quotes.Given as goal

abbrev pub invariant-loop-place : goal.invariant-loop-place
invariant-loop-place l = record {
  within : l.place ≤ length l.bytes;
  so_far : l.text.items ++ with_single_quotes (drop l.place l.bytes) ≡ with_single_quotes l.bytes;
}

abbrev pub decreases-loop-place : goal.decreases-loop-place
decreases-loop-place l = length l.bytes - l.place
