use Rattle.std.proofs.Common.{arith, length, ap}
use Rattle.pgs_overlay.proofs.Lists.{list_within}
use Rattle.pgs_overlay.proofs.base_list.BaseList.facts.Goals as goal

pub returns : goal.returns
returns g c =
    omega (arith, c.count-count.ensures.value, ap length c.self.view_is, list_within c.self.inside.side c.self.inside.id (g.B.GraphRead.meaning c.self.inside.base.now))
