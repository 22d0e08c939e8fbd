use Rattle.std.proofs.Common.{◌++◌, refl, ◌∙◌, ap}
use Rattle.pgs_resolve_declared.proofs.Repeats.{marks_of_piece, marks_of_pieces}
use Rattle.pgs_resolve_declared.proofs.Walks.{none_yet, more_of, all_of}
use Rattle.pgs_resolve_declared.proofs.duplicates.mark_pieces.Goals as goal

pub loop-piece-init : goal.loop-piece-init
loop-piece-init c = none_yet c.args.marks.now.items

pub loop-piece-preserved : goal.loop-piece-preserved
loop-piece-preserved c =
    more_of marks_of_piece c.args.marks.now.items c.args.pieces.now c.loop-piece.piece-index c.piece-item.result c.loop-piece.marks.items c.mark_piece.new.marks.items
    c.loop-piece-test.true c.piece-item.is c.loop-piece.invariant c.in_ok-mark_piece.ensures

pub returns : goal.returns
returns c =
    all_of marks_of_piece c.args.marks.now.items c.args.pieces.now c.args.pieces.now c.loop-piece.piece-index c.loop-piece.marks.items c.loop-piece-test.false refl c.loop-piece.invariant
    ∙ ap (λ marks. c.args.marks.now.items ++ marks) (marks_of_pieces c.args.pieces.now)
