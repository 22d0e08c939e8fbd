use Rattle.std.proofs.Common.{◌≡◌, ◌+◌, ◌-◌, ◌≤◌, not, length, take}
use Rattle.std.specs.List.{suffix_len}
use Rattle.pgs_lexer.specs.Form.{is_line_feed}
use Rattle.pgs_schema_places.proofs.because.last_size.Given as goal

abbrev pub invariant-loop-start : goal.invariant-loop-start
invariant-loop-start l = record {
  within : l.start ≤ length l.text;
  size : suffix_len (λ b. not (is_line_feed b)) l.text ≡ (length l.text - l.start) + suffix_len (λ b. not (is_line_feed b)) (take l.start l.text);
}

abbrev pub decreases-loop-start : goal.decreases-loop-start
decreases-loop-start l = l.start
