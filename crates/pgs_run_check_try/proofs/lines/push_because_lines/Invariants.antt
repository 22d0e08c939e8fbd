use Rattle.std.proofs.Common.{◌≡◌, ◌++◌, map, take}
use Rattle.pgs_run_check_try.specs.Lines.{because_line}
use Rattle.pgs_run_check_try.proofs.lines.push_because_lines.Given as goal

abbrev pub invariant-loop-cause : goal.invariant-loop-cause
invariant-loop-cause l = l.lines.items ≡ l.fn.lines.items ++ map (because_line l.line_number) (take l.cause-index l.causes)
