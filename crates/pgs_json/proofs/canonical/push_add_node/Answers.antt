use Rattle.std.proofs.Common.{◌++◌, ap, ◌∙◌}
use Rattle.pgs_json.proofs.Joined.{three_pieces, add_node_text}
use Rattle.pgs_json.proofs.canonical.push_add_node.Goals as goal

pub returns : goal.returns
returns c = three_pieces _ _ _ _ _ _ _ c.in_ok-push_id.ensures c.in_ok-push_pair.ensures c.in_ok-push.ensures.ok ∙ ap (λ t. c.args.text.now ++ t) (add_node_text c.args.id c.args.labels.now c.args.props.now)
