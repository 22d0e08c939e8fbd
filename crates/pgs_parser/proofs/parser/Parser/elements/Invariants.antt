use Rattle.std.proofs.Common.{◌≡◌, ◌+◌, ◌≤◌, length, codes}
use Rattle.pgs_parser.specs.Reader.{more}
use Rattle.pgs_parser.proofs.Items.{ahead}
use Rattle.pgs_parser.specs.Reader.{comma_unless}
use Rattle.pgs_parser.specs.Statements.{place_of_member}
use Rattle.pgs_parser.specs.StatementReaders.{element_at, elements_at}
use Rattle.pgs_parser.proofs.parser.Parser.elements.Given as goal

abbrev pub invariant-loop-self : goal.invariant-loop-self
invariant-loop-self l = record {
  read : ahead l.elements.items (more (comma_unless (codes "FOR")) element_at place_of_member (length l.self) l.next l.self) ≡ elements_at l.place l.fn.self;
  numbers : l.next + length l.self ≤ l.place + length l.fn.self;
}

abbrev pub decreases-loop-self : goal.decreases-loop-self
decreases-loop-self l = length l.self
