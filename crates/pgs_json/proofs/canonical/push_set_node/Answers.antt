use Rattle.std.proofs.Common.{◌++◌, ap, ◌∙◌}
use Rattle.pgs_json.proofs.Joined.{four_pieces, set_node_text}
use Rattle.pgs_json.proofs.canonical.push_set_node.Goals as goal

pub returns : goal.returns
returns c = four_pieces _ _ _ _ _ _ _ _ _ c.in_ok-push_named.ensures c.in_ok-push.ensures.ok c.in_ok-push_value.ensures c.in_ok-push-2.ensures.ok ∙ ap (λ t. c.args.text.now ++ t) (set_node_text c.args.id c.args.key.now c.args.value.now)
