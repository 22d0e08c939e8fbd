use Rattle.pgs_answer.proofs.Appended.{three_pieces}
use Rattle.pgs_answer.proofs.rejection_texts.push_untyped.Goals as goal

pub returns : goal.returns
returns c = three_pieces _ _ _ _ _ _ _ c.in_ok-push.ensures.ok c.in_ok-push_elem.ensures c.in_ok-push-2.ensures.ok
