use Rattle.std.proofs.Common.{◌≡◌, ℕ, ◌<◌, false, get_or}
use Rattle.pgs_differences.specs.declared.near_type.NearType.{NearType}
use Rattle.pgs_differences.specs.Nearest.{goes_before}
use Rattle.pgs_differences.proofs.ordering.place_of.Given as goal

abbrev pub invariant-loop-place : goal.invariant-loop-place
invariant-loop-place l = (k : ℕ) (d : NearType) → k < l.place → goes_before l.near (get_or l.nears k d) ≡ false
