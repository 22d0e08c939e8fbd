use Rattle.std.proofs.Common.{◌≡◌, ◌++◌}
use Rattle.pgs_match.specs.Planned.{pattern_of}
use Rattle.pgs_check_affected.specs.Found.{starts_of}
use Rattle.pgs_check_affected.proofs.gathering.Sought.add_starts.Given as goal

abbrev pub invariant-loop-var : goal.invariant-loop-var
invariant-loop-var l = record {
  so_far : l.starts.items ≡ l.fn.starts.items ++ starts_of l.self.compiled.now (pattern_of l.self.side l.self.key.now) l.elem l.own l.var;
}
