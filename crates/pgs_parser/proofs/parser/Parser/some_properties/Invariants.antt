use Rattle.std.proofs.Common.{◌≡◌, length, codes}
use Rattle.pgs_parser.specs.Reader.{more, none_declared}
use Rattle.pgs_parser.proofs.Items.{ahead}
use Rattle.pgs_parser.specs.Reader.{listed_at, comma_unless}
use Rattle.pgs_parser.specs.TypeReaders.{property_at}
use Rattle.pgs_parser.proofs.parser.Parser.some_properties.Given as goal

abbrev pub invariant-loop-self : goal.invariant-loop-self
invariant-loop-self l =
    ahead l.properties.items (more (comma_unless (codes "OPEN")) (λ place. property_at) none_declared (length l.self) 0 l.self) ≡ listed_at (comma_unless (codes "OPEN")) property_at l.fn.self

abbrev pub decreases-loop-self : goal.decreases-loop-self
decreases-loop-self l = length l.self
