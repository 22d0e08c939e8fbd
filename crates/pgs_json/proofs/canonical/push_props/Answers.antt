use Rattle.std.proofs.Common.{◌++◌, sym, ap, ◌∙◌}
use Rattle.std.specs.Prelude.{codes}
use Rattle.pgs_json.specs.Pieces.{listed, prop_text}
use Rattle.pgs_json.proofs.Joined.{three_pieces, props_listed}
use Rattle.pgs_json.proofs.canonical.push_props.Goals as goal

pub returns : goal.returns
returns c =
    three_pieces _ _ _ _ _ _ _ c.in_ok-push.ensures.ok c.in_ok-push_each_prop.ensures c.in_ok-push-2.ensures.ok
    ∙ ap (λ t. c.args.text.now ++ t) (ap (λ xs. codes "{" ++ (listed prop_text xs ++ codes "}")) c.as_slice.ensures.value ∙ sym (props_listed c.args.props.now))
