use Rattle.std.proofs.Common.{◌&&◌, ◌∙◌}
use Rattle.pgs_conform.specs.Shapes.{in_triple, in_some_triple}
use Rattle.pgs_standing.specs.Example.{by_edges}
use Rattle.pgs_standing.proofs.Parted.{begins, goes_on_fit, goes_on_else, found_both, ends, some_told, none_told}
use Rattle.pgs_standing.proofs.apart.triples_apart.Goals as goal
use Rattle.pgs_standing.proofs.apart.triples_apart.Goals.{then-fits, else-fits+in_ok-fits}

pub loop-shapes-init : goal.loop-shapes-init
loop-shapes-init c = begins by_edges in_triple (in_some_triple c.args.base.now) c.args.own.now

pub loop-shapes-preserved : goal.loop-shapes-preserved
loop-shapes-preserved c =
    let base = in_some_triple c.args.base.now in
    let none = none_told by_edges c.in_ok-shares_some_triple.field-0 (λ t. in_triple c.shapes-item.result t && base t) c.if-branch.false c.in_ok-shares_some_triple.ensures in
    elim c.if-fits.branch [
      | then-fits w ↦
          goes_on_fit by_edges in_triple base c.args.own.now c.loop-shapes.shapes-index c.shapes-item.result c.loop-shapes.fits c.if-fits.fits c.loop-shapes-test.true c.shapes-item.is c.loop-shapes.invariant none
          w.if-fits.true (w.fits-is ∙ w.if-fits.true)
      | else-fits+in_ok-fits w ↦
          goes_on_else by_edges in_triple base c.args.own.now c.loop-shapes.shapes-index c.shapes-item.result c.loop-shapes.fits w.in_ok-fits.fits c.if-fits.fits c.loop-shapes-test.true c.shapes-item.is
          c.loop-shapes.invariant none w.if-fits.false w.in_ok-fits.ensures w.fits-is
    ]

pub returns-then-branch : goal.returns-then-branch
returns-then-branch c =
    let base = in_some_triple c.args.base.now in
    found_both by_edges in_triple base c.args.own.now c.loop-shapes.shapes-index c.shapes-item.result c.loop-shapes-test.true c.shapes-item.is
    (some_told by_edges c.in_ok-shares_some_triple.field-0 (λ t. in_triple c.shapes-item.result t && base t) c.if-branch.true c.in_ok-shares_some_triple.ensures)

pub returns : goal.returns
returns c = ends by_edges in_triple (in_some_triple c.args.base.now) c.args.own.now c.loop-shapes.shapes-index c.loop-shapes.fits c.loop-shapes-test.false c.loop-shapes.invariant
