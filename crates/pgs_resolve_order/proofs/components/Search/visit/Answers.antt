use Rattle.std.proofs.Common.{◌∙◌, ap, arith}
use Rattle.std.specs.List.{sum_by}
use Rattle.std.proofs.lemmas.List.Sums.{sum_by_push}
use Rattle.pgs_resolve_order.specs.Searching.{frame_work}
use Rattle.pgs_resolve_order.proofs.components.Search.visit.Goals as goal

pub loop-frame-smaller : goal.loop-frame-smaller
loop-frame-smaller c =
    let f = ap (sum_by frame_work) c.in-Some.ensures.items ∙ sum_by_push frame_work c.pop.new.self.items c.in-Some.frame in
    let a = c.in_ok-step.ensures.work in
    omega (arith, a, f)
