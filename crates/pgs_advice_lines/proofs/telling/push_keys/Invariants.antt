use Rattle.std.proofs.Common.{◌≡◌, ◌++◌, take}
use Rattle.std.specs.List.{enumerate_from, flat_map}
use Rattle.pgs_advice_lines.specs.Telling.{key_lines}
use Rattle.pgs_advice_lines.proofs.telling.push_keys.Given as goal

abbrev pub invariant-loop-place : goal.invariant-loop-place
invariant-loop-place l =
    l.lines.items ≡ l.fn.lines.items ++ flat_map (key_lines l.resolved l.texts l.findings.reached.items l.findings.apart.items) (enumerate_from 0 (take l.place l.keys))
