-- What parsing tokens returns.
use Rattle.std.specs.Prelude.{◌≡◌, ℕ, Result, Ok, Err}
use Rattle.pgs_parser.specs.declared.fault.ParseFault.{ParseFault}
use Rattle.pgs_parser.specs.declared.fault.ParseFault.TheVariants as faults

-- a fault says which statement is none, unless memory ran out
abbrev pub IsFault : {A : Type 0} → Result A ℕ → ParseFault → Type 0
IsFault read faults.Memory = Unit {0}
IsFault read (faults.Syntax statement) = read ≡ Err statement

-- what was returned is what there is, unless memory ran out
abbrev pub Parses : {A B : Type 0} → (A → B) → Result A ParseFault → Result B ℕ → Type 0
Parses view (Ok x) read = read ≡ Ok (view x)
Parses view (Err fault) read = IsFault read fault
