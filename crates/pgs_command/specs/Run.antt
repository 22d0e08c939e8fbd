-- How a run ends, and the causes of its answers.
use Rattle.std.specs.Prelude.{◌≡◌, ◌⊎◌, ℕ, ◌+◌, ◌-◌, ◌≤◌, Bool, true, List, length, Option, Some}
use Rattle.pgs_run_lines.specs.Ending.{Faults, ReadsRose, AreasRose, PutsRose}
use Rattle.pgs_run_lines.specs.Machine.{Told}
use Rattle.pgs_run_lines.specs.Pieces.{Shown, ShowsAll}
use Rattle.pgs_world.specs.Source.{IsAtEnd}
use Rattle.pgs_command.specs.declared.status.Status.{Status}
use Rattle.pgs_command.specs.declared.status.Status.TheVariants.{Accepted, Refused, StoreRefused, DiskFault, ReadFault, PutFault, Memory, InputTooLong}
use Rattle.pgs_command.specs.Ending.{Ends}

-- Accepted and Refused come only where the source was read to its end
abbrev pub IsRead : Option (List ℕ) → Status → Type 0
IsRead left Accepted = IsAtEnd left
IsRead left Refused = IsAtEnd left
IsRead left status = Unit {0}

-- A fault is answered only where its count rose, and then no other count rose; with any other answer each count is as before. A read fails,
-- and an input is too long, only where the command reads its source; an area fails, and a store is refused, only where it uses the areas.
abbrev pub HasCause : (reads uses_areas : Bool) → Faults → Faults → Status → Type 0
HasCause reads uses_areas before now StoreRefused = (uses_areas ≡ true) × (now ≡ before)
HasCause reads uses_areas before now DiskFault = (uses_areas ≡ true) × AreasRose before now
HasCause reads uses_areas before now ReadFault = (reads ≡ true) × ReadsRose before now
HasCause reads uses_areas before now PutFault = PutsRose before now
HasCause reads uses_areas before now InputTooLong = (reads ≡ true) × (now ≡ before)
HasCause reads uses_areas before now status = now ≡ before

-- A run of which this is told by its budget ended so over this input, with this left of it.
pub record EndsAs (tell : ℕ → Told Status) (start : Shown) (input : List ℕ) (budget : ℕ) (left : Option (List ℕ))
    (status : Status) (now : Shown) : Type 0 where
  pub shown : Ends start (tell budget) status now
  -- after a fault of a read all is put that is told with the number of bytes that the reads gave in the budget's place
  pub read_fault : (rest : List ℕ) → left ≡ Some rest → status ≡ ReadFault → ShowsAll start (tell (length input - length rest)).pieces now
  -- never more than the budget is taken, and all of it where the input is too long
  pub within : (rest : List ℕ) → left ≡ Some rest → length input ≤ budget + length rest
  pub too_long : (rest : List ℕ) → left ≡ Some rest → status ≡ InputTooLong → length input ≡ budget + length rest

-- Never more than the budget is taken, and all of it where the input is too long.
pub record TakesWithin (input : List ℕ) (budget : ℕ) (rest : List ℕ) (status : Status) : Type 0 where
  pub within : length input ≤ budget + length rest
  pub too_long : status ≡ InputTooLong → length input ≡ budget + length rest

-- a fault or want of memory disturbed the run
abbrev pub IsDisturbed : Status → Type 0
IsDisturbed status = (status ≡ ReadFault) ⊎ ((status ≡ PutFault) ⊎ ((status ≡ Memory) ⊎ (status ≡ DiskFault)))

-- the run ended with 0 or 1 and all that is told, or for want of memory
abbrev pub IsComplete : Shown → Told Status → Status → Shown → Type 0
IsComplete start told status now =
    (status ≡ Memory) ⊎ (((status ≡ Accepted) ⊎ (status ≡ Refused)) × ShowsAll start told.pieces now)
