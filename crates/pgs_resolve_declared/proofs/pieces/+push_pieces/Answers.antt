use Rattle.std.proofs.Common.{◌++◌, ◌∙◌, ap, map, arith}
use Rattle.pgs_resolve_declared.proofs.Parts.{whole}
use Rattle.pgs_resolve_declared.proofs.pieces.+push_pieces.Goals as goal

pub returns-after-loop-part : goal.returns-after-loop-part
returns-after-loop-part t c =
    c.loop-part.invariant ∙ ap (λ pieces. map (λ piece. piece.now) c.args.pieces.now.items ++ pieces)
    (whole _ _ _ _ c.in-And.is c.as_slice-part-items.ensures (omega arith))
