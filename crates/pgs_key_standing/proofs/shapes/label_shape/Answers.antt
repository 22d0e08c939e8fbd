use Rattle.std.proofs.Common.{◌∙◌, ℕ, List, [], ◌∷◌, ap}
use Rattle.pgs_base.specs.Names.{put_name}
use Rattle.pgs_key_standing.proofs.Single.{in_labelled}
use Rattle.pgs_key_standing.proofs.shapes.label_shape.Goals as goal

pub returns : goal.returns
returns c = λ p.
    in_labelled c.insert.new.self c.new.result c.args.label.now
    (c.in_ok-insert.ensures.ok ∙ ap (λ (labels : List (List ℕ)). put_name labels c.in_ok-name.name) c.new-labels.ensures
    ∙ ap (λ (name : List ℕ). name ∷ []) c.in_ok-name.ensures)
    c.new.ensures p
