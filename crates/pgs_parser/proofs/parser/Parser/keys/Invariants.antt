use Rattle.std.proofs.Common.{◌≡◌, ◌+◌, ◌≤◌, length}
use Rattle.pgs_parser.specs.Reader.{more}
use Rattle.pgs_parser.proofs.Items.{ahead}
use Rattle.pgs_parser.specs.Reader.{sign_at}
use Rattle.pgs_parser.specs.KeyReaders.{key_at}
use Rattle.pgs_parser.specs.StatementReaders.{place_of_key, keys_at}
use Rattle.pgs_parser.proofs.parser.Parser.keys.Given as goal

abbrev pub invariant-loop-self : goal.invariant-loop-self
invariant-loop-self l = record {
  read : ahead l.keys.items (more (sign_at ",") key_at place_of_key (length l.self) l.next l.self) ≡ keys_at l.place l.fn.self;
  numbers : l.next + length l.self ≤ l.place + length l.fn.self;
}

abbrev pub decreases-loop-self : goal.decreases-loop-self
decreases-loop-self l = length l.self
