use Rattle.std.proofs.Common.{◌∙◌, ap, ◌++◌}
use Rattle.pgs_contain.proofs.Strangers.{labels_more}
use Rattle.pgs_contain.proofs.further.push_labels.Goals as goal

pub loop-shape-preserved : goal.loop-shape-preserved
loop-shape-preserved c =
    labels_more c.args.shapes.now c.loop-shape.shape-index c.shape-item.result c.args.all.now.items c.loop-shape.all.items c.push_names.new.all.items
    c.loop-shape-test.true c.shape-item.is (c.in_ok-push_names.ensures ∙ ap (λ ls. c.loop-shape.all.items ++ ls) c.as_slice.ensures.value) c.loop-shape.invariant
