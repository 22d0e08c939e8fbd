use Rattle.std.proofs.Common.{◌≡◌, filter}
use Rattle.pgs_differences.specs.Nearest.{is_eligible_by}
use Rattle.pgs_differences.proofs.nearest.eligible.Given as goal

abbrev pub invariant-loop-near : goal.invariant-loop-near
invariant-loop-near l = l.kept.items ≡ filter (is_eligible_by l.fewest) l.yielded
