use Rattle.std.proofs.Common.{◌≡◌, ◌≤◌, ◌-◌, length, drop}
use Rattle.std.specs.List.{slice_range}
use Rattle.pgs_parser.specs.Statements.{pieces_of}
use Rattle.pgs_parser.proofs.Pieces.{with_front}
use Rattle.pgs_parser.proofs.parsing.end_of_piece.Given as goal

abbrev pub invariant-loop-place : goal.invariant-loop-place
invariant-loop-place l = record {
  order : l.start ≤ l.place;
  within : l.place ≤ length l.tokens;
  pieces : pieces_of (drop l.start l.tokens) ≡ with_front (slice_range l.tokens l.start l.place) (pieces_of (drop l.place l.tokens));
}

abbrev pub decreases-loop-place : goal.decreases-loop-place
decreases-loop-place l = length l.tokens - l.place
