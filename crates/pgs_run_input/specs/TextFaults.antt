-- What is given of a text or a line, by its answer: a value, or the text of its refusal.
use Rattle.std.specs.Prelude.{◌≡◌, ℕ, List, Result, Ok, Err}
use Rattle.pgs_run_input.specs.declared.text_fault.TextFault.{TextFault}
use Rattle.pgs_run_input.specs.declared.text_fault.TextFault.TheVariants.{Refused, Memory}

-- a refusal has the text of the answer; want of memory says nothing of it
abbrev pub IsFaultOf : {A : Type 0} → Result A (List ℕ) → TextFault → Type 0
IsFaultOf answer (Refused text) = answer ≡ Err text
IsFaultOf answer Memory = Unit {0}

-- what is given is what the answer says
abbrev pub Gives : {A : Type 0} → Result A (List ℕ) → Result A TextFault → Type 0
Gives answer (Ok given) = answer ≡ Ok given
Gives answer (Err fault) = IsFaultOf answer fault
