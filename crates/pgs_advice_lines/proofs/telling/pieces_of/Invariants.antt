use Rattle.std.proofs.Common.{◌≡◌, map, take}
use Rattle.pgs_advice_lines.proofs.telling.pieces_of.Given as goal

abbrev pub invariant-loop-line : goal.invariant-loop-line
invariant-loop-line l = l.pieces.items ≡ map (λ line. line.text) (take l.line-index l.lines)
