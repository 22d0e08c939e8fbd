use Rattle.std.proofs.Common.{◌∙◌}
use Rattle.pgs_resolve_order.proofs.Linked.{cycle_is}
use Rattle.pgs_resolve_order.proofs.cycles.least_on_cycle.Goals as goal

pub returns : goal.returns
returns c script are =
    c.lesser_name.ensures
    ∙ cycle_is script c.args.declarations.now are c.in_ok-types.types c.in_ok-graphs.graphs (c.in_ok-types.ensures script are) (c.in_ok-graphs.ensures script are)
