use Rattle.std.proofs.Common.{◌&&◌, ◌∙◌}
use Rattle.pgs_conform.specs.Shapes.{in_shape, in_some}
use Rattle.pgs_standing.specs.Example.{by_nodes}
use Rattle.pgs_standing.proofs.Parted.{begins, goes_on_fit, goes_on_else, found_both, ends, some_told, none_told}
use Rattle.pgs_standing.proofs.apart.pairs_apart.Goals as goal
use Rattle.pgs_standing.proofs.apart.pairs_apart.Goals.{then-fits, else-fits+in_ok-fits}

pub loop-shape-init : goal.loop-shape-init
loop-shape-init c = begins by_nodes in_shape (in_some c.args.base.now) c.args.own.now

pub loop-shape-preserved : goal.loop-shape-preserved
loop-shape-preserved c =
    let base = in_some c.args.base.now in
    let none = none_told by_nodes c.in_ok-shares_some_pair.field-0 (λ p. in_shape c.shape-item.result p && base p) c.if-branch.false c.in_ok-shares_some_pair.ensures in
    elim c.if-fits.branch [
      | then-fits w ↦
          goes_on_fit by_nodes in_shape base c.args.own.now c.loop-shape.shape-index c.shape-item.result c.loop-shape.fits c.if-fits.fits c.loop-shape-test.true c.shape-item.is c.loop-shape.invariant none
          w.if-fits.true (w.fits-is ∙ w.if-fits.true)
      | else-fits+in_ok-fits w ↦
          goes_on_else by_nodes in_shape base c.args.own.now c.loop-shape.shape-index c.shape-item.result c.loop-shape.fits w.in_ok-fits.fits c.if-fits.fits c.loop-shape-test.true c.shape-item.is
          c.loop-shape.invariant none w.if-fits.false w.in_ok-fits.ensures w.fits-is
    ]

pub returns-then-branch : goal.returns-then-branch
returns-then-branch c =
    let base = in_some c.args.base.now in
    found_both by_nodes in_shape base c.args.own.now c.loop-shape.shape-index c.shape-item.result c.loop-shape-test.true c.shape-item.is
    (some_told by_nodes c.in_ok-shares_some_pair.field-0 (λ p. in_shape c.shape-item.result p && base p) c.if-branch.true c.in_ok-shares_some_pair.ensures)

pub returns : goal.returns
returns c = ends by_nodes in_shape (in_some c.args.base.now) c.args.own.now c.loop-shape.shape-index c.loop-shape.fits c.loop-shape-test.false c.loop-shape.invariant
