use Rattle.pgs_snapshot.proofs.Finding.{finds_before}
use Rattle.pgs_snapshot.proofs.choosing.choose_area.Goals as goal

pub returns-clause-found : goal.returns-clause-found
returns-clause-found g c =
    finds_before (g.W.World.view c.args.world.now) (g.W.World.view c.sync_both.new.world) (g.W.World.view c.read_chosen.new.world) c.read_chosen.result
    c.sync_both.ensures.quiet c.read_chosen.ensures.found
