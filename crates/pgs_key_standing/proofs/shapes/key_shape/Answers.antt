use Rattle.std.proofs.Common.{◌∙◌, ℕ, List, [], ◌∷◌, ◌++◌, ap}
use Rattle.pgs_conform.specs.declared.options.Options.{Options}
use Rattle.pgs_key_standing.proofs.Single.{in_keyed}
use Rattle.pgs_key_standing.proofs.shapes.key_shape.Goals as goal

pub returns : goal.returns
returns c = λ p.
    in_keyed c.new.result c.from_vec.result c.args.key.now c.args.options c.new.ensures
    (c.from_vec.ensures ∙ c.in_ok-push.ensures.items
    ∙ ap (λ (keys : List (List ℕ × Options)). keys ++ (c.in_ok-name.name, c.args.options) ∷ []) c.new-keys.ensures.items
    ∙ ap (λ (name : List ℕ). (name, c.args.options) ∷ []) c.in_ok-name.ensures)
    p
