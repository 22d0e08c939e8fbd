use Rattle.std.proofs.Common.{◌<◌, length, refl, arith}
use Rattle.std.proofs.lemmas.Option.{slice_get_read}
use Rattle.pgs_match.proofs.Plans.{planned_at}
use Rattle.pgs_match.proofs.planned.plan_at.Goals as goal

pub returns : goal.returns
returns c =
    let plans = c.args.plans.now in
    let plan = c.index-plans-var in
    let below : c.args.var < length plans = omega (arith, c.requires.in_range, c.requires.plans.0) in
    let at = slice_get_read plans (length plans) c.args.var plan.result refl below plan.is in
    planned_at c.args.pattern.now plans c.args.var plan.result c.requires.plans at
