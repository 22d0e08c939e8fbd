use Rattle.std.proofs.Common.{subst}
use Rattle.std.specs.Prelude.{IfOk}
use Rattle.pgs_world.specs.MemWorld.{Kept, Leaves}
use Rattle.pgs_world.proofs.mem_world.MemWorld.left.Goals as goal

pub images-requires : goal.images-requires
images-requires c = c.self.invariant.well

pub returns-clause-may_leave : goal.returns-clause-may_leave
returns-clause-may_leave c =
    subst (λ (k : Kept). IfOk c.images.result (λ left. Leaves k.now (record { a = left.0; b = left.1; output = left.2 }))) c.self.view_is c.images.ensures.may_leave
