use Rattle.std.proofs.Common.{◌∙◌, ap, arith}
use Rattle.std.specs.List.{sum_by}
use Rattle.std.proofs.lemmas.List.Sums.{sum_by_push}
use Rattle.pgs_resolve_order.specs.Searching.{frame_work}
use Rattle.pgs_resolve_order.proofs.components.Search.pass.Goals as goal

pub returns-clause-work : goal.returns-clause-work
returns-clause-work c =
    let a = c.take_earlier-is_earlier.ensures.work c.args.rows.now in
    let f = ap (sum_by frame_work) c.in_ok-push.ensures.items ∙ sum_by_push frame_work c.args.self.now.frames.items _ in
    omega (arith, a, f)
