use Rattle.std.proofs.Common.{ap, arith}
use Rattle.pgs_resolve_order.specs.Searching.{unseen_work}
use Rattle.pgs_resolve_order.proofs.Work.{no_more}
use Rattle.pgs_resolve_order.proofs.components.Search.close.Goals as goal

pub returns-clause-work : goal.returns-clause-work
returns-clause-work c =
    let rows = c.args.rows.now in
    let a = c.rank_open.ensures.work rows in
    let b = no_more rows c.rank_open.new.marks.items c.args.root c.args.self.now.rank c.requires.search.rank in
    let e = ap (unseen_work rows) c.set_mark.ensures in
    omega (arith, a, b, e)
