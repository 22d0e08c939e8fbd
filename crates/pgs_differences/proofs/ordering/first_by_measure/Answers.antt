use Rattle.pgs_differences.specs.Nearest.{goes_before}
use Rattle.pgs_differences.proofs.Ordered.{first_more}
use Rattle.pgs_differences.proofs.ordering.first_by_measure.Goals as goal

pub loop-near-preserved : goal.loop-near-preserved
loop-near-preserved c =
    first_more goes_before c.args.most c.loop-near.first.items c.put.new.nears.items c.loop-near.yielded c.in-Some.near
    c.loop-near.invariant c.in_ok-put.ensures
