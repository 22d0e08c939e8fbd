use Rattle.std.proofs.Common.{[], codes, refl}
use Rattle.pgs_parser.specs.Samples as texts
use Rattle.pgs_syntax.proofs.Members.{contains_first}
use Rattle.pgs_resolve.specs.Ways.{step, further}
use Rattle.pgs_resolve.proofs.Cycles.{cycle_none}
use Rattle.pgs_resolve.proofs.samples.ways.Goals as goal

pub returns-clause-back : goal.returns-clause-back
returns-clause-back c = further (contains_first (codes "b") []) (step (contains_first (codes "a") []))

pub returns-clause-forth : goal.returns-clause-forth
returns-clause-forth c = further (contains_first (codes "b") []) (step (contains_first (codes "a") []))

pub returns-clause-no_cycle : goal.returns-clause-no_cycle
returns-clause-no_cycle c = cycle_none texts.backwards_script refl
