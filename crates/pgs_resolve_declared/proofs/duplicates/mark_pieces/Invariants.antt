use Rattle.std.proofs.Common.{◌≡◌, ◌++◌, take}
use Rattle.std.specs.List.{flat_map}
use Rattle.pgs_resolve_declared.proofs.Repeats.{marks_of_piece}
use Rattle.pgs_resolve_declared.proofs.duplicates.mark_pieces.Given as goal

abbrev pub invariant-loop-piece : goal.invariant-loop-piece
invariant-loop-piece l = l.marks.items ≡ l.fn.marks.items ++ flat_map marks_of_piece (take l.piece-index l.pieces)
