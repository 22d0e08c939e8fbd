use Rattle.std.proofs.Common.{◌≡◌, length}
use Rattle.pgs_parser.specs.Keys.{bounds_in}
use Rattle.pgs_parser.proofs.key_productions.bounds_in.Given as goal

abbrev pub invariant-loop-rest : goal.invariant-loop-rest
invariant-loop-rest l = bounds_in l.rest ≡ bounds_in l.fn.written

abbrev pub decreases-loop-rest : goal.decreases-loop-rest
decreases-loop-rest l = length l.rest
