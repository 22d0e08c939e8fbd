-- What the calls of this crate answer, beside what the definition of staging says. Want of memory alone is free.
use Rattle.std.specs.Prelude.{◌≡◌, ℕ, Result, Ok, Err}
use Rattle.pgs_base.specs.Graph.{Graph}
use Rattle.pgs_violation.specs.declared.structural.Structural.{Structural}
use Rattle.pgs_violation.specs.declared.structural.Structural.TheVariants.{BadOp, ElementTooLarge}
use Rattle.pgs_violation.specs.Staging.{StepFault, Unable, TooLarge}
use Rattle.pgs_txn.specs.declared.faults.OpFault.{OpFault}
use Rattle.pgs_txn.specs.declared.faults.OpFault.TheVariants as faults
use Rattle.pgs_txn.specs.declared.faults.StageFault.{StageFault}
use Rattle.pgs_txn.specs.declared.faults.StageFault.TheVariants as stages

-- a fault is the one that the definition gives
abbrev pub IsFault : {A : Type 0} → OpFault → Result A StepFault → Type 0
IsFault faults.Memory r = Unit {0}
IsFault (faults.Unable cause) r = r ≡ Err (Unable cause)
IsFault faults.TooLarge r = r ≡ Err TooLarge

-- an answer is what the definition gives
abbrev pub Gives : {A : Type 0} → Result A OpFault → Result A StepFault → Type 0
Gives (Ok x) r = r ≡ Ok x
Gives (Err fault) r = IsFault fault r

-- after Ok a graph is what the definition gives, and a fault is its fault
abbrev pub Makes : {A : Type 0} → Result A OpFault → Graph → Result Graph StepFault → Type 0
Makes (Ok x) g r = r ≡ Ok g
Makes (Err fault) g r = IsFault fault r

-- the fault of the operation at a place, from 1, as that of its transaction
abbrev pub fault_at : ℕ → OpFault → StageFault
fault_at place faults.Memory = stages.Memory
fault_at place (faults.Unable cause) = stages.Refused (BadOp place cause)
fault_at place faults.TooLarge = stages.Refused (ElementTooLarge place)

-- a refusal is the one that the definition gives
abbrev pub IsRefusal : StageFault → Result Graph Structural → Type 0
IsRefusal stages.Memory r = Unit {0}
IsRefusal (stages.Refused structural) r = r ≡ Err structural
