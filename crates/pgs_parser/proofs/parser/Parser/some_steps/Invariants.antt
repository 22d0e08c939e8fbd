use Rattle.std.proofs.Common.{◌≡◌, length}
use Rattle.pgs_parser.specs.Reader.{more, none_declared}
use Rattle.pgs_parser.proofs.Items.{ahead}
use Rattle.pgs_parser.specs.Reader.{each_at}
use Rattle.pgs_parser.specs.KeyReaders.{step_at, step_begins}
use Rattle.pgs_parser.proofs.parser.Parser.some_steps.Given as goal

abbrev pub invariant-loop-self : goal.invariant-loop-self
invariant-loop-self l = ahead l.steps.items (more step_begins (λ place. step_at) none_declared (length l.self) 0 l.self) ≡ each_at step_begins step_at l.fn.self

abbrev pub decreases-loop-self : goal.decreases-loop-self
decreases-loop-self l = length l.self
