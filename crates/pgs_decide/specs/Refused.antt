-- What a refusal of a transaction says of the decision on it.
use Rattle.std.specs.Prelude.{◌≡◌, Result, Err}
use Rattle.pgs_violation.specs.declared.rejection.Rejection.{Rejection}
use Rattle.pgs_decide.specs.declared.refusal.GuardRefusal.{GuardRefusal}
use Rattle.pgs_decide.specs.declared.refusal.GuardRefusal.TheVariants.{Memory, Rejected}

-- a transaction is rejected as it is decided; want of memory says nothing of it
abbrev pub IsRejected : {A : Type 0} → Result A Rejection → GuardRefusal → Type 0
IsRejected decision Memory = Unit {0}
IsRejected decision (Rejected rejection) = decision ≡ Err rejection
