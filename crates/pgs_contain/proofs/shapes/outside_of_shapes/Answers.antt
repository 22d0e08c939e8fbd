use Rattle.std.proofs.Common.{sym, ◌∙◌}
use Rattle.pgs_contain.proofs.Whole.{found_out, none_out}
use Rattle.pgs_contain.proofs.shapes.outside_of_shapes.Goals as goal

pub returns-then-is_some : goal.returns-then-is_some
returns-then-is_some c =
    found_out c.args.further.now.avoid.now c.args.shapes.now c.args.others.now c.loop-shape.shape-index c.shape-item.result c.in_ok-found.found c.loop-shape-test.true c.shape-item.is
    c.in_ok-found.ensures (sym c.is_some.ensures ∙ c.if-is_some.true)

pub loop-shape-preserved : goal.loop-shape-preserved
loop-shape-preserved c =
    none_out c.args.further.now.avoid.now c.args.shapes.now c.args.others.now c.loop-shape.shape-index c.shape-item.result c.in_ok-found.found c.loop-shape-test.true c.shape-item.is
    c.in_ok-found.ensures (sym c.is_some.ensures ∙ c.if-is_some.false) c.loop-shape.invariant
