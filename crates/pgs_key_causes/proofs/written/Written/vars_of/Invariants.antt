use Rattle.std.proofs.Common.{◌≡◌, take}
use Rattle.pgs_key_causes.specs.Fronts.{vars_of}
use Rattle.pgs_key_causes.proofs.written.Written.vars_of.Given as goal

abbrev pub invariant-loop-visit : goal.invariant-loop-visit
invariant-loop-visit l = l.vars.items ≡ vars_of l.self.occurrences (take l.visit-index l.visits)
