use Rattle.std.proofs.Common.{length, drop, ◌-◌, ◌≡◌, ◌+◌, ◌≤◌}
use Rattle.std.specs.Prelude.{option_map}
use Rattle.pgs_lexer.specs.Scan.{closing}
use Rattle.pgs_lexer.proofs.string_item.closing.Given as goal

abbrev pub invariant-loop-place : goal.invariant-loop-place
invariant-loop-place l = record {
  within : l.place ≤ length l.text;
  same : option_map (λ n. l.place + n) (closing (drop l.place l.text)) ≡ closing l.text;
}

abbrev pub decreases-loop-place : goal.decreases-loop-place
decreases-loop-place l = length l.text - l.place
