use Rattle.std.proofs.Common.{not, ◌∙◌, ap}
use Rattle.pgs_key_standing.proofs.Between.{small_more, small_lacks}
use Rattle.pgs_key_standing.proofs.places.have_small.Goals as goal

pub returns-then-is_none : goal.returns-then-is_none
returns-then-is_none c =
    small_lacks c.args.places.now c.loop-shape.shape-index c.shape-item.result c.in_ok-found.found c.loop-shape-test.true c.shape-item.is c.in_ok-found.ensures
    (c.is_none.ensures ∙ ap not c.if-is_none.true)

pub loop-shape-preserved : goal.loop-shape-preserved
loop-shape-preserved c =
    small_more c.args.places.now c.loop-shape.shape-index c.shape-item.result c.in_ok-found.found c.loop-shape-test.true c.shape-item.is c.in_ok-found.ensures
    (c.is_none.ensures ∙ ap not c.if-is_none.false) c.loop-shape.invariant
