use Rattle.std.proofs.Common.{◌∙◌}
use Rattle.pgs_world.specs.World.{part}
use Rattle.pgs_journal.proofs.Heads.{head_decided}
use Rattle.pgs_journal.proofs.head.read_head.Goals as goal

pub returns-clause-head : goal.returns-clause-head
returns-clause-head g c =
    let front = c.in_ok-front.front in
    let read = c.in_ok-front.ensures in
    λ told.
    c.head.ensures.head
    ∙ head_decided front.len front.bytes (part c.args.area (g.W.World.view c.args.world.now).shown) read.size (λ long. read.bytes long told) (read.len told)
