use Rattle.pgs_resolve_order.proofs.Backs.{by_steps, least_of_these}
use Rattle.pgs_resolve_order.proofs.cycles.least_by_steps.Goals as goal

pub returns : goal.returns
returns c =
    let flags = c.in_ok-flags.flags.items in
    by_steps c.args.names.now c.args.rows.now flags c.in_ok-flags.ensures.len c.in_ok-flags.ensures.flags c.least_set.result
    (least_of_these c.as_slice.result.now c.args.names.now c.deref.result.now flags c.least_set.result c.as_slice.ensures c.deref.ensures.value c.least_set.ensures)
