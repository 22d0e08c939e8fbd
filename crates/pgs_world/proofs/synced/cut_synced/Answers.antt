-- What was settled is settled again: the area by the sync, and the rest was never touched.
use Rattle.std.proofs.lemmas.Result.{on_ok_weaker}
use Rattle.pgs_world.specs.Disk.{Cuts}
use Rattle.pgs_world.proofs.Moments.{settled_step}
use Rattle.pgs_world.proofs.synced.cut_synced.Goals as goal

pub returns-clause-settled : goal.returns-clause-settled
returns-clause-settled g c =
    let done = c.cut.ensures in
    on_ok_weaker c.sync.result (λ synced s. settled_step c.args.area (g.W.World.view c.args.world.now) (g.W.World.view c.cut.new.self) (g.W.World.view c.sync.new.self) (Cuts c.args.area c.args.len) (λ d e did. did.same) s done.passes done.stops done.beside c.sync.ensures.quiet synced) c.sync.ensures.synced
