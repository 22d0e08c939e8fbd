use Rattle.std.proofs.Common.{subst, ◌<◌}
use Rattle.pgs_run_contain.proofs.Naming.{name_more}
use Rattle.pgs_run_contain.proofs.names.push_names_of.Goals as goal

pub loop-place-preserved : goal.loop-place-preserved
loop-place-preserved c =
    name_more c.args.tokens.now c.loop-place.place c.args.names.now.items c.loop-place.names.items c.push_name_at.new.names.items
    (subst (λ n. c.loop-place.place < n) c.len-place-end.ensures.count c.loop-place-test.true) c.in_ok-push_name_at.ensures c.loop-place.invariant
