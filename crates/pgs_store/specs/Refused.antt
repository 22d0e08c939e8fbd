-- A guard's refusal as a store's.
use Rattle.pgs_decide.specs.declared.refusal.GuardRefusal.{GuardRefusal}
use Rattle.pgs_decide.specs.declared.refusal.GuardRefusal.TheVariants.{Memory, Rejected}
use Rattle.pgs_store.specs.declared.fault.ApplyFault.{ApplyFault}
use Rattle.pgs_store.specs.declared.fault.ApplyFault.TheVariants as applies

-- why a guard didn't take a transaction, as a fault of a store
abbrev pub of_guard : GuardRefusal → ApplyFault
of_guard Memory = applies.Memory
of_guard (Rejected rejection) = applies.Rejected rejection
