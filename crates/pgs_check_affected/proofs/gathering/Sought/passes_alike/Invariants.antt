use Rattle.std.proofs.Common.{◌≡◌, true}
use Rattle.pgs_match.specs.Planned.{pattern_of}
use Rattle.pgs_check_affected.specs.Unseen.{passes_alike}
use Rattle.pgs_check_affected.proofs.gathering.Sought.passes_alike.Given as goal

abbrev pub invariant-loop-var : goal.invariant-loop-var
invariant-loop-var l = record { so_far : passes_alike l.self.compiled.now (pattern_of l.self.side l.self.key.now) l.var l.known ≡ true }
