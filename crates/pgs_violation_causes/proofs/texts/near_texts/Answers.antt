use Rattle.pgs_violation_causes.specs.Types.{near_text}
use Rattle.pgs_violation_causes.proofs.Told.{more_texts}
use Rattle.pgs_violation_causes.proofs.texts.near_texts.Goals as goal

pub loop-near-preserved : goal.loop-near-preserved
loop-near-preserved c =
    more_texts (near_text c.args.resolved.now) c.args.nears.now c.loop-near.near-index c.near-item.result c.loop-near.texts.items
    c.push_near_text.new.texts.items c.loop-near-test.true c.near-item.is c.loop-near.invariant c.in_ok-push_near_text.ensures
