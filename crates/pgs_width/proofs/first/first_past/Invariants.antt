use Rattle.std.proofs.Common.{◌≡◌, drop}
use Rattle.pgs_width.specs.First.{first_past}
use Rattle.pgs_width.proofs.first.first_past.Given as goal

abbrev pub invariant-loop-sized : goal.invariant-loop-sized
invariant-loop-sized l = first_past l.parts (drop l.sized-index l.types) ≡ first_past 0 l.types
