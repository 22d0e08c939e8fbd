use Rattle.pgs_world.proofs.Sounds.{known_kept}
use Rattle.pgs_world.proofs.mem_world.MemWorld.read_exact.Goals as goal

pub returns-then-not-admits-clause-known : goal.returns-then-not-admits-clause-known
returns-then-not-admits-clause-known c = known_kept c.self.inside c.args.self.now c.self.view_is c.self.invariant

pub returns-clause-known : goal.returns-clause-known
returns-clause-known c = known_kept c.self.inside c.args.self.now c.self.view_is c.self.invariant
