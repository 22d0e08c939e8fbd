use Rattle.std.proofs.Common.{◌≡◌, ◌++◌, take}
use Rattle.std.specs.List.{flat_map}
use Rattle.pgs_resolve_declared.specs.Declarations.{word_in}
use Rattle.pgs_resolve_declared.proofs.pieces.push_words.Given as goal

abbrev pub invariant-loop-piece : goal.invariant-loop-piece
invariant-loop-piece l = l.words.items ≡ l.fn.words.items ++ flat_map (λ piece. word_in piece.now) (take l.piece-index l.pieces)
