use Rattle.std.proofs.Common.{◌++◌, sym, ap, ◌∙◌}
use Rattle.std.specs.Prelude.{codes}
use Rattle.pgs_base_text.specs.Text.{quoted}
use Rattle.pgs_json.specs.Pieces.{listed}
use Rattle.pgs_json.proofs.Joined.{three_pieces, labels_listed}
use Rattle.pgs_json.proofs.canonical.push_labels.Goals as goal

pub returns : goal.returns
returns c =
    three_pieces _ _ _ _ _ _ _ c.in_ok-push.ensures.ok c.in_ok-push_each_label.ensures c.in_ok-push-2.ensures.ok
    ∙ ap (λ t. c.args.text.now ++ t) (ap (λ xs. codes "[" ++ (listed quoted xs ++ codes "]")) c.as_slice.ensures.value ∙ sym (labels_listed c.args.labels.now))
