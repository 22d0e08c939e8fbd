use Rattle.std.proofs.Common.{◌≡◌, length}
use Rattle.pgs_parser.specs.Reader.{more, none_declared}
use Rattle.pgs_parser.proofs.Items.{ahead}
use Rattle.pgs_parser.specs.Reader.{listed_at, after, the_sign, name_at}
use Rattle.pgs_parser.proofs.parser.Parser.some_names.Given as goal

abbrev pub invariant-loop-self : goal.invariant-loop-self
invariant-loop-self l =
    ahead l.names.items (more (after (the_sign l.separator)) (λ place. name_at) none_declared (length l.self) 0 l.self) ≡ listed_at (after (the_sign l.separator)) name_at l.fn.self

abbrev pub decreases-loop-self : goal.decreases-loop-self
decreases-loop-self l = length l.self
