-- The limits of the program, by their two numbers.
use Rattle.std.proofs.Common.{◌≡◌, ap₂}
use Rattle.pgs_base.specs.declared.limits.Limits.{Limits}
use Rattle.pgs_run_input.specs.Session.{standard}

pub standard_is : (limits : Limits) → limits.ops ≡ 10000 → limits.elements ≡ 1000000 → limits ≡ standard
standard_is limits ops elements = ap₂ (λ o e. record { ops = o; elements = e }) ops elements
