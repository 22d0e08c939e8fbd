use Rattle.pgs_base.proofs.Items.{copied_more}
use Rattle.pgs_match.proofs.copies.copy_atoms.Goals as goal

pub loop-atom-init : goal.loop-atom-init
loop-atom-init c = c.in_ok-copies.ensures.items

pub loop-atom-preserved : goal.loop-atom-preserved
loop-atom-preserved c =
    copied_more c.args.atoms.now c.loop-atom.copies.items c.push.new.self.items c.loop-atom.atom-index c.atom-item.result c.in_ok-copy.copy c.loop-atom-test.true c.loop-atom.invariant
    c.in_ok-copy.ensures c.atom-item.is c.in_ok-push.ensures.items
