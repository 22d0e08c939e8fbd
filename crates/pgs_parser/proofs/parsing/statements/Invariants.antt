use Rattle.std.proofs.Common.{◌≡◌, ◌+◌, ◌≤◌, ◌-◌, length, drop}
use Rattle.pgs_parser.specs.Statements.{pieces_of}
use Rattle.pgs_parser.specs.StatementReaders.{statements_of}
use Rattle.pgs_parser.proofs.Script.{with_statements}
use Rattle.pgs_parser.proofs.parsing.statements.Given as goal

abbrev pub invariant-loop-start : goal.invariant-loop-start
invariant-loop-start l = record {
  within : l.start ≤ length l.tokens;
  numbers : l.place ≤ l.start + 1;
  count : length l.statements.items ≤ l.start;
  read : with_statements l.statements.items (statements_of (length l.statements.items + 1) l.place (pieces_of (drop l.start l.tokens))) ≡ statements_of 1 1 (pieces_of l.tokens);
}

abbrev pub decreases-loop-start : goal.decreases-loop-start
decreases-loop-start l = length l.tokens - l.start
