use Rattle.std.proofs.Common.{◌∷◌, [], ◌∙◌, ap}
use Rattle.pgs_base.specs.Pair.{put_name}
use Rattle.pgs_shapes.proofs.Leaves.{label_meets}
use Rattle.pgs_shapes.proofs.leaf.label_shape.Goals as goal

pub returns : goal.returns
returns c =
    label_meets c.args.label.now _ _
    (c.in_ok-insert.ensures.ok ∙ ap (λ labels. put_name labels c.in_ok-copy.field-0) c.new-labels.ensures ∙ ap (λ label. label ∷ []) c.in_ok-copy.ensures) c.new.ensures
