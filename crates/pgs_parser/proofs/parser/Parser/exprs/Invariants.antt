use Rattle.std.proofs.Common.{◌≡◌, length, codes}
use Rattle.pgs_parser.specs.Reader.{more, none_declared}
use Rattle.pgs_parser.proofs.Items.{ahead}
use Rattle.pgs_parser.specs.Reader.{comma_unless}
use Rattle.pgs_parser.specs.KeyReaders.{expr_at, exprs_at}
use Rattle.pgs_parser.proofs.parser.Parser.exprs.Given as goal

abbrev pub invariant-loop-self : goal.invariant-loop-self
invariant-loop-self l =
    ahead l.exprs.items (more (comma_unless (codes "FOR")) (λ place. expr_at) none_declared (length l.self) 0 l.self) ≡ exprs_at l.fn.self

abbrev pub decreases-loop-self : goal.decreases-loop-self
decreases-loop-self l = length l.self
