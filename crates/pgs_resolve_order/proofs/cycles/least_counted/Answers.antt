use Rattle.std.proofs.Common.{subst}
use Rattle.pgs_resolve_order.specs.Links.{IsSomeBack}
use Rattle.pgs_resolve_order.proofs.cycles.least_counted.Goals as goal

pub least_back-requires : goal.least_back-requires
least_back-requires g c = (_, subst (IsSomeBack c.args.rows.now) c.in-Some.is c.in_ok-some_back.ensures.back)
