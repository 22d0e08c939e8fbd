use Rattle.std.proofs.Common.{◌≡◌, ◌+◌, ◌*◌, length}
use Rattle.pgs_parser.specs.Reader.{more, none_declared, followed, sign_at}
use Rattle.pgs_parser.specs.TypeReaders.{unit_at, conj_at, inner_at}
use Rattle.pgs_parser.proofs.Items.{ahead}
use Rattle.pgs_parser.proofs.parser.Parser.+labels.Given as goal

abbrev pub decreases-level : goal.decreases-level
decreases-level l = 7 * l.further + 6

abbrev pub decreases-conjs : goal.decreases-conjs
decreases-conjs l = 7 * l.further + 5

abbrev pub decreases-conj : goal.decreases-conj
decreases-conj l = 7 * l.further + 4

abbrev pub decreases-units : goal.decreases-units
decreases-units l = 7 * l.further + 3

abbrev pub decreases-unit : goal.decreases-unit
decreases-unit l = 7 * l.further + 2

abbrev pub decreases-atom : goal.decreases-atom
decreases-atom l = 7 * l.further + 1

abbrev pub decreases-parenthesised : goal.decreases-parenthesised
decreases-parenthesised l = 7 * l.further + 0

abbrev pub invariant-units-loop-self : goal.invariant-units-loop-self
invariant-units-loop-self l =
    ahead l.units.items (more (sign_at "&") (λ place. unit_at (inner_at l.further)) none_declared (length l.self) 0 l.self) ≡ followed (sign_at "&") (λ place. unit_at (inner_at l.fn.further)) none_declared 0 (l.fn.first, l.fn.self)

abbrev pub decreases-units-loop-self : goal.decreases-units-loop-self
decreases-units-loop-self l = length l.self

abbrev pub invariant-conjs-loop-self : goal.invariant-conjs-loop-self
invariant-conjs-loop-self l =
    ahead l.conjs.items (more (sign_at "|") (λ place. conj_at (inner_at l.further)) none_declared (length l.self) 0 l.self) ≡ followed (sign_at "|") (λ place. conj_at (inner_at l.fn.further)) none_declared 0 (l.fn.first, l.fn.self)

abbrev pub decreases-conjs-loop-self : goal.decreases-conjs-loop-self
decreases-conjs-loop-self l = length l.self
