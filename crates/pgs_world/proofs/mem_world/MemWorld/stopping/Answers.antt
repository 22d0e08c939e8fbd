use Rattle.std.proofs.Common.{min, [], sym, subst}
use Rattle.std.proofs.lemmas.Result.{IfOk-weaker}
use Rattle.pgs_world.specs.MemWorld.{Kept, view_of}
use Rattle.pgs_world.specs.Moment.{IsSettled}
use Rattle.pgs_world.proofs.MemSteps.{settled_begun}
use Rattle.pgs_world.proofs.mem_world.MemWorld.stopping.Goals as goal

pub returns-clause-settled : goal.returns-clause-settled
returns-clause-settled c =
    IfOk-weaker c.starting.result _ _ (λ world is. subst (λ (k : Kept). IsSettled (view_of k)) (sym is) (settled_begun c.args.a c.args.b c.args.room (min c.args.room c.args.calls) [])) c.starting.ensures
