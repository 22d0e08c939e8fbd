use Rattle.std.proofs.Common.{◌≡◌, length}
use Rattle.pgs_parser.specs.Reader.{more, none_declared}
use Rattle.pgs_parser.proofs.Items.{ahead}
use Rattle.pgs_parser.specs.Reader.{followed}
use Rattle.pgs_parser.specs.KeyReaders.{qualifier_at, qualifier_begins}
use Rattle.pgs_parser.proofs.parser.Parser.written_qualifiers.Given as goal

abbrev pub invariant-loop-self : goal.invariant-loop-self
invariant-loop-self l =
    ahead l.written.items (more (qualifier_begins) (λ place. qualifier_at) none_declared (length l.self) 0 l.self) ≡ followed qualifier_begins (λ place. qualifier_at) none_declared 0 (l.fn.first, l.fn.self)

abbrev pub decreases-loop-self : goal.decreases-loop-self
decreases-loop-self l = length l.self
