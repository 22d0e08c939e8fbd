use Rattle.std.proofs.Common.{◌≡◌, ℕ, ◌<◌, ◌≤◌, false}
use Rattle.pgs_match.specs.Planned.{pattern_of}
use Rattle.pgs_check_affected.specs.Met.{is_taken_at}
use Rattle.pgs_check_affected.proofs.gathering.Sought.takes.Given as goal

abbrev pub invariant-loop-var : goal.invariant-loop-var
invariant-loop-var l = record {
  none : (var : ℕ) → l.first ≤ var → var < l.var → is_taken_at l.self.compiled.now (pattern_of l.self.side l.self.key.now) var l.known ≡ false;
}
