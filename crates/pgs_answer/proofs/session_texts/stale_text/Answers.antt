use Rattle.std.proofs.Common.{◌++◌, [], codes, decimal, ap, ◌∙◌}
use Rattle.pgs_base_text.specs.Text.{elem_text}
use Rattle.pgs_answer.proofs.Appended.{three_pieces}
use Rattle.pgs_answer.proofs.session_texts.stale_text.Goals as goal

pub returns : goal.returns
returns c =
    c.into_bytes.ensures
    ∙ three_pieces [] (codes "44 ") (elem_text c.args.elem) (codes " changed at commit " ++ decimal c.args.commit) _ _ _
    (c.in_ok-push.ensures.ok ∙ ap (λ t. t ++ codes "44 ") c.in_ok-text.ensures) c.in_ok-push_elem.ensures c.in_ok-push_count.ensures
