use Rattle.std.proofs.Common.{◌==◌, length, sym, ap, ◌∙◌, ◌||◌}
use Rattle.pgs_conform.proofs.walking.labels_fit.Goals as goal
use Rattle.pgs_conform.proofs.LabelWalk.{missing, met, passed, refused, ended}

pub returns-in-Less : goal.returns-in-Less
returns-in-Less c =
    missing c.args.asked.now c.args.more c.args.labels.now c.loop-asked_left.asked_left.now c.loop-asked_left.left.now
    c.first-item.result c.label-item.result c.in-len1-up.len_at_least c.in-len1-up-left.len_at_least c.first-item.is c.label-item.is
    (sym c.order.ensures ∙ c.in-Less.is) c.loop-asked_left.invariant

pub returns-then-not-more : goal.returns-then-not-more
returns-then-not-more c =
    refused c.args.asked.now c.args.more c.args.labels.now c.loop-asked_left.asked_left.now c.loop-asked_left.left.now
    c.first-item.result c.label-item.result c.in-len1-up.len_at_least c.in-len1-up-left.len_at_least c.first-item.is c.label-item.is
    (sym c.order.ensures ∙ c.in-Greater.is) c.if-not-more.true c.loop-asked_left.invariant

pub loop-asked_left-preserved-in-Equal : goal.loop-asked_left-preserved-in-Equal
loop-asked_left-preserved-in-Equal c =
    met c.args.asked.now c.args.more c.args.labels.now c.loop-asked_left.asked_left.now c.loop-asked_left.left.now
    c.first-item.result c.label-item.result c.in-len1-up.len_at_least c.in-len1-up-left.len_at_least c.first-item.is c.label-item.is
    (sym c.order.ensures ∙ c.in-Equal.is) c.loop-asked_left.invariant

pub loop-asked_left-preserved : goal.loop-asked_left-preserved
loop-asked_left-preserved c =
    passed c.args.asked.now c.args.more c.args.labels.now c.loop-asked_left.asked_left.now c.loop-asked_left.left.now
    c.first-item.result c.label-item.result c.in-len1-up.len_at_least c.in-len1-up-left.len_at_least c.first-item.is c.label-item.is
    (sym c.order.ensures ∙ c.in-Greater.is) c.if-not-more.false c.loop-asked_left.invariant

pub returns-then-more : goal.returns-then-more
returns-then-more c =
    let whole = ended c.args.asked.now c.args.more c.args.labels.now c.loop-asked_left.asked_left.now c.loop-asked_left.left.now
    c.in_default.len_below c.loop-asked_left.invariant in
    c.if-more.true ∙ sym (whole ∙ ap (λ b. b || (length c.loop-asked_left.left.now == 0)) c.if-more.true)

pub returns-else-more : goal.returns-else-more
returns-else-more c =
    let whole = ended c.args.asked.now c.args.more c.args.labels.now c.loop-asked_left.asked_left.now c.loop-asked_left.left.now
    c.in_default.len_below c.loop-asked_left.invariant in
    c.is_empty.ensures ∙ sym (whole ∙ ap (λ b. b || (length c.loop-asked_left.left.now == 0)) c.if-more.false)
