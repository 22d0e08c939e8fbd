use Rattle.std.proofs.Common.{take}
use Rattle.pgs_match.specs.Plans.{is_step, IsBestOf}
use Rattle.pgs_match.proofs.planner.best_step.Given as goal

abbrev pub invariant-loop-atom : goal.invariant-loop-atom
invariant-loop-atom l = IsBestOf l.atoms (is_step (take l.atom-index l.atoms) l.known) l.best
