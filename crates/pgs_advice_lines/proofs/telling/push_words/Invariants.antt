use Rattle.std.proofs.Common.{◌≡◌, ◌++◌, map, take}
use Rattle.pgs_advice_lines.specs.Lines.{unknown_line}
use Rattle.pgs_advice_lines.specs.Telling.{warn}
use Rattle.pgs_advice_lines.proofs.telling.push_words.Given as goal

abbrev pub invariant-loop-word : goal.invariant-loop-word
invariant-loop-word l = l.lines.items ≡ l.fn.lines.items ++ map (λ word. warn (unknown_line l.number word)) (take l.word-index l.words)
