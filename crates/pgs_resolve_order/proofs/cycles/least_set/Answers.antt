use Rattle.std.proofs.Common.{◌+◌, sym, subst}
use Rattle.pgs_resolve_order.specs.Links.{IsLeastSet}
use Rattle.pgs_resolve_order.proofs.Leasts.{no_flag_more, flag_more}
use Rattle.pgs_resolve_order.proofs.cycles.least_set.Goals as goal
use Rattle.pgs_resolve_order.proofs.cycles.least_set.Goals.{then-flags-number, else-flags-number}

pub loop-number-preserved : goal.loop-number-preserved
loop-number-preserved c =
    let names = c.args.names.now in
    let flags = c.args.flags.now in
    let n = c.loop-number.number in
    elim c.if-flags-number.branch [
      | then-flags-number w ↦ subst (IsLeastSet names flags (n + 1)) (sym w.least-is) (flag_more names flags n c.loop-number.least w.lesser.result w.if-flags-number.true c.loop-number.invariant w.lesser.ensures)
      | else-flags-number w ↦ subst (IsLeastSet names flags (n + 1)) (sym w.least-is) (no_flag_more names flags n c.loop-number.least w.if-flags-number.false c.loop-number.invariant)
    ]
