use Rattle.std.proofs.Common.{◌++◌, ap, ◌∙◌}
use Rattle.pgs_json.proofs.Joined.{five_pieces, add_edge_text}
use Rattle.pgs_json.proofs.canonical.push_add_edge.Goals as goal

pub returns : goal.returns
returns c = five_pieces _ _ _ _ _ _ _ _ _ _ _ c.in_ok-push_id.ensures c.in_ok-push_id-2.ensures c.in_ok-push_pair.ensures c.in_ok-push_id-3.ensures c.in_ok-push.ensures.ok ∙ ap (λ t. c.args.text.now ++ t) (add_edge_text c.args.id c.args.ends.0 c.args.ends.1 c.args.labels.now c.args.props.now)
