use Rattle.std.proofs.Common.{◌≡◌, ◌++◌, map, take}
use Rattle.pgs_advice_lines.specs.Lines.{unused_line}
use Rattle.pgs_advice_lines.specs.Telling.{warn}
use Rattle.pgs_advice_lines.proofs.telling.push_types.Given as goal

abbrev pub invariant-loop-name : goal.invariant-loop-name
invariant-loop-name l = l.lines.items ≡ l.fn.lines.items ++ map (λ name. warn (unused_line name)) (take l.name-index l.names)
