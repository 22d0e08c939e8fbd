use Rattle.std.proofs.Common.{arith}
use Rattle.pgs_store.proofs.Bounds.{room}
use Rattle.pgs_store.proofs.store.Store.next_commit.Goals as goal

pub overflow_add-result : goal.overflow_add-result
overflow_add-result c =
    let inside = c.self.inside in
    let bounded = c.self.invariant in
    let few = room inside.journal.epoch inside.journal.end inside.guard.commits bounded.epoch bounded.end bounded.most in
    omega (arith, few, c.commits.ensures)
