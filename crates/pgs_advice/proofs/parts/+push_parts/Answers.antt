use Rattle.std.proofs.Common.{◌++◌, ◌∙◌, ap, map, arith}
use Rattle.pgs_advice.proofs.Inner.{whole}
use Rattle.pgs_advice.proofs.parts.+push_parts.Goals as goal

pub returns-after-loop-part : goal.returns-after-loop-part
returns-after-loop-part t c =
    c.loop-part.invariant ∙ ap (λ parts. map (λ part. part.now) c.args.parts.now.items ++ parts)
    (whole _ _ _ _ c.in-And.is c.as_slice-part-items.ensures (omega arith))
