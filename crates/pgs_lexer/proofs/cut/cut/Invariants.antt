use Rattle.std.proofs.Common.{◌≡◌, ◌≤◌, ◌-◌, length, drop}
use Rattle.pgs_lexer.specs.Cut.{with_front, lexemes, tokens_from}
use Rattle.pgs_lexer.proofs.cut.cut.Given as goal

-- what was read, and then what the rest has, is what the text has
abbrev pub invariant-loop-place : goal.invariant-loop-place
invariant-loop-place l = record {
  within : l.place ≤ length l.text;
  told : with_front (lexemes l.text l.spans.items) (tokens_from 0 l.place (drop l.place l.text)) ≡ tokens_from 0 0 l.text;
}

abbrev pub decreases-loop-place : goal.decreases-loop-place
decreases-loop-place l = length l.text - l.place
