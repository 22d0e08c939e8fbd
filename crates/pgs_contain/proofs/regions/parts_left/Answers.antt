use Rattle.std.proofs.Common.{◌∙◌, ap, ◌++◌, ◌∷◌, []}
use Rattle.pgs_contain.proofs.Parts.{key_more, kept_same}
use Rattle.pgs_contain.proofs.regions.parts_left.Goals as goal

pub loop-left-preserved : goal.loop-left-preserved
loop-left-preserved c =
    let kept = c.loop-left.kept.items in
    key_more c.args.region.now c.args.taken.now c.loop-left.parts.items c.push_wrong.new.parts.items kept c.push.new.self.items
    c.loop-left.left.now c.loop-left.right.now _ _ c.in-len1-up.len_at_least c.in-len1-up-right.len_at_least
    (kept_same c.loop-left.parts.items c.push_wrong.new.parts.items c.as_slice.result.now kept _ _ c.as_slice.ensures.value c.in_ok-push_wrong.ensures)
    (c.in_ok-push.ensures.items ∙ ap (λ o. kept ++ o ∷ []) c.common_options-both.ensures) c.loop-left.invariant
