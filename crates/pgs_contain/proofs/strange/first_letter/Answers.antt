use Rattle.std.proofs.Common.{◌+◌, ◌∙◌, ap, length}
use Rattle.pgs_contain.proofs.strange.first_letter.Goals as goal

pub returns : goal.returns
returns c =
    let made = c.in_ok-go_on.ensures.fewer in
    (made.0, made.1, made.2 ∙ ap (λ bs. length bs + 1) c.new-bytes.ensures.items, c.in_ok-go_on.ensures.in_range)
