use Rattle.std.proofs.Common.{◌≡◌, ◌++◌, take}
use Rattle.pgs_run_check_evolve.specs.Lines.{key_lines}
use Rattle.pgs_run_check_evolve.proofs.lines.push_keys.Given as goal

abbrev pub invariant-loop-flag : goal.invariant-loop-flag
invariant-loop-flag l = record {
  number : l.number ≡ l.flag-index;
  lines : l.lines.items ≡ l.fn.lines.items ++ key_lines l.keys 1 (take l.flag-index l.flags);
}
