use Rattle.std.proofs.Common.{◌++◌, ap, ◌∙◌}
use Rattle.pgs_json.proofs.Joined.{three_pieces, txn_text}
use Rattle.pgs_json.proofs.canonical.push_txn.Goals as goal

pub returns : goal.returns
returns c = three_pieces _ _ _ _ _ _ _ c.in_ok-push_front.ensures c.in_ok-push_ops.ensures c.in_ok-push.ensures.ok ∙ ap (λ t. c.args.text.now ++ t) (txn_text c.args.txn.now c.args.commit)
