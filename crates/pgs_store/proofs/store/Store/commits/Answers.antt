use Rattle.std.proofs.Common.{arith}
use Rattle.pgs_store.proofs.Bounds.{room}
use Rattle.pgs_store.proofs.store.Store.commits.Goals as goal

pub returns-clause-below : goal.returns-clause-below
returns-clause-below c =
    let inside = c.self.inside in
    let bounded = c.self.invariant in
    let few = room inside.journal.epoch inside.journal.end inside.guard.commits bounded.epoch bounded.end bounded.most in
    omega (arith, few, c.commits.ensures)
