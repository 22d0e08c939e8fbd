-- The calls that a run makes: the reads of its source, and the last call on its world.
use Rattle.std.specs.Prelude.{◌≡◌, ℕ, ◌+◌, ◌≤◌, Bool, true, false, Option, Some, None, Result, Ok, Err}
use Rattle.pgs_run_lines.specs.declared.stop.Stop.{Stop}
use Rattle.pgs_run_lines.specs.declared.stop.Stop.TheVariants as stops

-- a read may ask for so many bytes, where so many are left of the budget
pub record MayAsk (left asked : ℕ) : Type 0 where
  pub some : 1 ≤ asked
  pub most : asked ≤ 65536
  pub within : asked ≤ left

-- Reads that each gave something, one after another, and nothing else of the source; so much is left of the budget.
pub data Gave {S : Type 0} (made : S → ℕ → Option ℕ → S → Type 0) (budget : ℕ) (start : S) : ℕ → S → Type 0 where
  gave_none : Gave made budget start budget start
  gave_more : {left rest asked count : ℕ} {mid now : S} → Gave made budget start left mid → MayAsk left asked → 1 ≤ count → rest + count ≡ left → made mid asked (Some count) now → Gave made budget start rest now

-- All reads of a run: some that gave something, and then none, or one that found the end of the input, or one that failed. So there is at
-- most one more than bytes were taken, and none behind the end or a fault.
pub data MakesReads {S : Type 0} (made : S → ℕ → Option ℕ → S → Type 0) (budget : ℕ) (start : S) : (fails : Bool) → S → Type 0 where
  so_far : {left : ℕ} {now : S} → Gave made budget start left now → MakesReads made budget start false now
  to_end : {left asked : ℕ} {mid now : S} → Gave made budget start left mid → MayAsk left asked → made mid asked (Some 0) now → MakesReads made budget start false now
  to_fault : {left asked : ℕ} {mid now : S} → Gave made budget start left mid → MayAsk left asked → made mid asked None now → MakesReads made budget start true now

-- a read failed
abbrev pub is_of_source : {E : Type 0} → Stop E → Bool
is_of_source (stops.Ended status) = false
is_of_source stops.ReadFault = true
is_of_source stops.DiskFault = false
is_of_source stops.PutFault = false
is_of_source stops.Memory = false

-- a call on the world failed
abbrev pub is_of_world : {E : Type 0} → Stop E → Bool
is_of_world (stops.Ended status) = false
is_of_world stops.ReadFault = false
is_of_world stops.DiskFault = true
is_of_world stops.PutFault = true
is_of_world stops.Memory = false

abbrev pub stops_of_world : {T E : Type 0} → Result T (Stop E) → Bool
stops_of_world (Ok done) = false
stops_of_world (Err stop) = is_of_world stop

abbrev pub stops_of_source : {T E : Type 0} → Result T (Stop E) → Bool
stops_of_source (Ok done) = false
stops_of_source (Err stop) = is_of_source stop
