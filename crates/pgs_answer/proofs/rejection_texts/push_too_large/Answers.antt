use Rattle.std.proofs.lemmas.Result.{on_ok_weaker}
use Rattle.pgs_answer.proofs.Appended.{three_pieces}
use Rattle.pgs_answer.proofs.rejection_texts.push_too_large.Goals as goal

pub returns : goal.returns
returns c = on_ok_weaker c.push-2.result (λ e. three_pieces _ _ _ _ _ _ _ c.in_ok-push.ensures.ok c.in_ok-push_number.ensures e) c.push-2.ensures.ok
