use Rattle.std.proofs.Common.{◌≡◌, Bool, true, ◌&&◌, ◌∙◌, sym, ap}
use Rattle.pgs_base.specs.declared.row.NodeRow.{NodeRow}
use Rattle.pgs_conform.specs.declared.shape.Shape.{Shape}
use Rattle.pgs_conform.specs.Shapes.{in_shape, labels_meet, props_meet}
use Rattle.pgs_conform.proofs.shape.Shape.has.Goals as goal

-- where the labels are those of a shape, the properties decide
by_props : (shape : Shape) (lent p : NodeRow) → lent ≡ p → labels_meet shape.labels shape.more_labels lent.labels ≡ true →
    (answer : Bool) → answer ≡ props_meet shape.keys shape.more_keys lent.props → answer ≡ in_shape shape p
by_props shape lent p same labels answer props =
    props ∙ sym (ap (λ b. b && props_meet shape.keys shape.more_keys lent.props) labels) ∙ ap (in_shape shape) same

pub returns-then-labels_fit : goal.returns-then-labels_fit
returns-then-labels_fit c =
    by_props c.args.self.now _ c.args.own.now c.own.view_is
    (sym (λ i. labels_meet (c.as_slice.ensures.value i) c.args.self.now.more_labels (c.as_slice-2.ensures.value i))
    ∙ sym c.labels_fit.ensures ∙ c.if-labels_fit.true)
    c.props_fit.result
    (c.props_fit.ensures
    ∙ (λ i. props_meet (c.as_slice-then-labels_fit.ensures i) c.args.self.now.more_keys (c.as_slice-then-labels_fit-2.ensures.value i)))
