use Rattle.std.proofs.Common.{◌&&◌}
use Rattle.pgs_conform.specs.Shapes.{in_shape}
use Rattle.pgs_standing.specs.Example.{by_nodes}
use Rattle.pgs_standing.proofs.Parted.{none_yet, none_more, none_all, one_of, some_told, none_told}
use Rattle.pgs_standing.proofs.apart.shares_some_pair.Goals as goal

pub loop-other-init : goal.loop-other-init
loop-other-init c = none_yet by_nodes in_shape (in_shape c.args.shape.now)

pub loop-other-preserved : goal.loop-other-preserved
loop-other-preserved c =
    none_more by_nodes in_shape (in_shape c.args.shape.now) c.args.others.now c.loop-other.other-index c.other-item.result c.loop-other-test.true c.other-item.is c.loop-other.invariant
    (none_told by_nodes c.in_ok-share_pair.field-0 (λ p. in_shape c.args.shape.now p && in_shape c.other-item.result p) c.if-branch.false c.in_ok-share_pair.ensures)

pub returns-then-branch : goal.returns-then-branch
returns-then-branch c =
    one_of by_nodes in_shape (in_shape c.args.shape.now) c.args.others.now c.loop-other.other-index c.other-item.result c.loop-other-test.true c.other-item.is
    (some_told by_nodes c.in_ok-share_pair.field-0 (λ p. in_shape c.args.shape.now p && in_shape c.other-item.result p) c.if-branch.true c.in_ok-share_pair.ensures)

pub returns : goal.returns
returns c = none_all by_nodes in_shape (in_shape c.args.shape.now) c.args.others.now c.loop-other.other-index c.loop-other-test.false c.loop-other.invariant
