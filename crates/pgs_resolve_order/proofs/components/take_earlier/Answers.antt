use Rattle.std.proofs.Common.{ap, arith}
use Rattle.pgs_resolve_order.specs.Searching.{unseen_work}
use Rattle.pgs_resolve_order.proofs.Work.{no_more}
use Rattle.pgs_resolve_order.proofs.components.take_earlier.Goals as goal

pub returns-then-is_earlier-clause-work : goal.returns-then-is_earlier-clause-work
returns-then-is_earlier-clause-work c rows =
    let a = no_more rows c.args.marks.now.items c.args.number c.args.mark c.requires in
    let e = ap (unseen_work rows) c.set_mark.ensures in
    omega (arith, a, e)
