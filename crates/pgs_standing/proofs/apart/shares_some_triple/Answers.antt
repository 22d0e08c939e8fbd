use Rattle.std.proofs.Common.{◌&&◌}
use Rattle.pgs_conform.specs.Shapes.{in_triple}
use Rattle.pgs_standing.specs.Example.{by_edges}
use Rattle.pgs_standing.proofs.Parted.{none_yet, none_more, none_all, one_of, some_told, none_told}
use Rattle.pgs_standing.proofs.apart.shares_some_triple.Goals as goal

pub loop-other-init : goal.loop-other-init
loop-other-init c = none_yet by_edges in_triple (in_triple c.args.shapes.now)

pub loop-other-preserved : goal.loop-other-preserved
loop-other-preserved c =
    none_more by_edges in_triple (in_triple c.args.shapes.now) c.args.others.now c.loop-other.other-index c.other-item.result c.loop-other-test.true c.other-item.is c.loop-other.invariant
    (none_told by_edges c.in_ok-share_triple.field-0 (λ t. in_triple c.args.shapes.now t && in_triple c.other-item.result t) c.if-branch.false c.in_ok-share_triple.ensures)

pub returns-then-branch : goal.returns-then-branch
returns-then-branch c =
    one_of by_edges in_triple (in_triple c.args.shapes.now) c.args.others.now c.loop-other.other-index c.other-item.result c.loop-other-test.true c.other-item.is
    (some_told by_edges c.in_ok-share_triple.field-0 (λ t. in_triple c.args.shapes.now t && in_triple c.other-item.result t) c.if-branch.true c.in_ok-share_triple.ensures)

pub returns : goal.returns
returns c = none_all by_edges in_triple (in_triple c.args.shapes.now) c.args.others.now c.loop-other.other-index c.loop-other-test.false c.loop-other.invariant
