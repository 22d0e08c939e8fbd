use Rattle.std.proofs.Common.{◌++◌, sym, ap, ◌∙◌}
use Rattle.std.specs.Prelude.{codes}
use Rattle.pgs_json.specs.Canonical.{op_text}
use Rattle.pgs_json.specs.Pieces.{listed}
use Rattle.pgs_json.proofs.Joined.{three_pieces, ops_listed}
use Rattle.pgs_json.proofs.canonical.push_ops.Goals as goal

pub returns : goal.returns
returns c =
    three_pieces _ _ _ _ _ _ _ c.in_ok-push.ensures.ok c.in_ok-push_each_op.ensures c.in_ok-push-2.ensures.ok
    ∙ ap (λ t. c.args.text.now ++ t) (ap (λ xs. codes "[" ++ (listed op_text xs ++ codes "]")) c.as_slice.ensures ∙ sym (ops_listed c.args.txn.now))
