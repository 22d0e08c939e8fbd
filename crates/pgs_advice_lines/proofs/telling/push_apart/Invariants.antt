use Rattle.std.proofs.Common.{◌≡◌, ◌++◌, take}
use Rattle.pgs_advice_lines.specs.Telling.{apart_lines}
use Rattle.pgs_advice_lines.proofs.telling.push_apart.Given as goal

abbrev pub invariant-loop-subtype : goal.invariant-loop-subtype
invariant-loop-subtype l = l.lines.items ≡ l.fn.lines.items ++ apart_lines l.resolved l.number (take l.subtype-index l.subtypes)
