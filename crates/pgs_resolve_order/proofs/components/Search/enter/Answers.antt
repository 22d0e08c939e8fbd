use Rattle.std.proofs.Common.{◌^◌, ◌-◌, ◌∙◌, ap, arith, length}
use Rattle.std.specs.List.{sum_by}
use Rattle.std.proofs.lemmas.List.Sums.{sum_by_push}
use Rattle.pgs_resolve_order.specs.Searching.{unseen_work, frame_work}
use Rattle.pgs_resolve_order.proofs.Work.{within, less}
use Rattle.pgs_resolve_order.proofs.components.Search.enter.Goals as goal

pub returns-clause-work : goal.returns-clause-work
returns-clause-work c =
    let rows = c.args.rows.now in
    let marks = c.args.self.now.marks.items in
    let l = within marks c.args.number (2 ^ 64 - 1) (omega arith) c.requires.unseen in
    let a = less rows marks c.args.number c.args.self.now.order (2 ^ 64 - 1) c.requires.search.order c.requires.search.len l c.requires.unseen in
    let e = ap (unseen_work rows) c.set_mark.ensures in
    let f = ap (sum_by frame_work) c.in_ok-push.ensures.items ∙ sum_by_push frame_work c.args.self.now.frames.items _ in
    let r = ap length c.row_at.ensures in
    omega (arith, a, e, f, r)
