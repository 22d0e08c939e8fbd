use Rattle.pgs_base.proofs.Items.{copied_more}
use Rattle.pgs_base.proofs.copying.copy_items.Goals as goal

pub loop-item-init : goal.loop-item-init
loop-item-init g c = c.in_ok-copied.ensures.items

pub loop-item-preserved : goal.loop-item-preserved
loop-item-preserved g c =
    copied_more c.args.items.now c.loop-item.copied.items c.push.new.self.items c.loop-item.item-index c.item-item.result c.in_ok-copy.field-0 c.loop-item-test.true c.loop-item.invariant c.in_ok-copy.ensures c.item-item.is c.in_ok-push.ensures.items
