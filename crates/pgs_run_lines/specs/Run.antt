-- How the run of a machine over an input ends.
use Rattle.std.specs.Prelude.{◌≡◌, ◌⊎◌, ℕ, ◌+◌, ◌-◌, ◌<◌, ◌≤◌, Bool, true, false, List, [], ◌++◌, length, Option, Some}
use Rattle.pgs_world.specs.Source.{Takes, IsAtEnd}
use Rattle.pgs_run_lines.specs.declared.stop.Stop.{Stop}
use Rattle.pgs_run_lines.specs.declared.stop.Stop.TheVariants as stops
use Rattle.pgs_run_lines.specs.Driving.{IsEndAt}
use Rattle.pgs_run_lines.specs.Ending.{Ends}
use Rattle.pgs_run_lines.specs.Input.{kept_of}
use Rattle.pgs_run_lines.specs.Machine.{Going, Ended, Machine, Rule, Scene, Extent, Whole, Inside, AtEnd, Told, after_lines, status_at_cut, told_at_end}
use Rattle.pgs_run_lines.specs.Pieces.{Shown, ShowsAll}

-- A run of which this is told by its budget ended so over this input, with this left of it.
pub record EndsAs {E : Type 0} (tell : ℕ → Told E) (start : Shown) (input : List ℕ) (budget : ℕ) (left : Option (List ℕ))
    (stop : Stop E) (now : Shown) : Type 0 where
  pub shown : Ends start (tell budget) stop now
  -- after a fault of a read all is put that is told with the number of bytes that the reads gave in the budget's place
  pub read_fault : (rest : List ℕ) → left ≡ Some rest → stop ≡ stops.ReadFault
      → ShowsAll start (tell (length input - length rest)).pieces now
  -- never more than the budget is taken
  pub within : (rest : List ℕ) → left ≡ Some rest → length input ≤ budget + length rest

-- a line ended the run with this status
pub record EndsAtLine {E : Type 0} (m : Machine E) (status : E) : Type 0 where
  pub state : m.State
  pub line : List ℕ
  pub is : (m.line state line).next ≡ Ended status

-- the input was read to its end, which gave this status
pub record EndsAtEnd {E : Type 0} (m : Machine E) (left : Option (List ℕ)) (status : E) : Type 0 where
  pub state : m.State
  pub rest : List ℕ
  pub is : (m.rest state rest).status ≡ status
  pub at_end : IsAtEnd left

-- as many bytes as the budget were taken, which gave this status
pub record EndsAtCut {E : Type 0} (m : Machine E) (budget : ℕ) (before left : Option (List ℕ)) (status : E) : Type 0 where
  pub state : m.State
  pub is : m.cut state ≡ status
  pub bytes : List ℕ
  pub taken : Takes before left bytes
  pub full : length bytes ≡ budget

-- where an end of the machine's own comes from
abbrev pub EndsBy : {E : Type 0} → Machine E → ℕ → Option (List ℕ) → Option (List ℕ) → Stop E → Type 0
EndsBy m budget before left (stops.Ended status) = EndsAtLine m status ⊎ (EndsAtEnd m left status ⊎ EndsAtCut m budget before left status)
EndsBy m budget before left stops.ReadFault = Unit {0}
EndsBy m budget before left stops.DiskFault = Unit {0}
EndsBy m budget before left stops.PutFault = Unit {0}
EndsBy m budget before left stops.Memory = Unit {0}

-- behind all lines a read failed, or the budget was reached, which gave the status; want of memory may come between any two
abbrev pub IsBetween : {E : Type 0} (m : Machine E) (s : m.State) (budget : ℕ) (bytes : List ℕ) (lines later : List (List ℕ)) → Stop E → Type 0
IsBetween m s budget bytes lines later (stops.Ended status) =
    (later ≡ []) × (length bytes ≡ budget) × (status_at_cut m (after_lines m (Going s) lines) ≡ status)
IsBetween m s budget bytes lines later stops.ReadFault = later ≡ []
IsBetween m s budget bytes lines later stops.DiskFault = ⊥
IsBetween m s budget bytes lines later stops.PutFault = ⊥
IsBetween m s budget bytes lines later stops.Memory = Unit {0}

-- an end of the machine's own is the one that is told
abbrev pub IsToldBy : {E : Type 0} → Told E → Stop E → Type 0
IsToldBy told (stops.Ended status) = told.status ≡ status
IsToldBy told stops.ReadFault = Unit {0}
IsToldBy told stops.DiskFault = Unit {0}
IsToldBy told stops.PutFault = Unit {0}
IsToldBy told stops.Memory = Unit {0}

-- how a machine ends at the end of its input: what is shown is what is told, where its pieces are what is put
abbrev pub EndsWhere : {E : Type 0} → Bool → Shown → Told E → Stop E → Shown → Type 0
EndsWhere true start told stop now = Ends start told stop now
EndsWhere false start told stop now = IsToldBy told stop

-- How far the lines of the bytes that were taken were taken, where the run stopped so: all of them, or all but the last, which gave the
-- stop, or all, and then the end of the input, which gave it.
abbrev pub IsFar : {E : Type 0} (m : Machine E) (limit : ℕ) (s : m.State) (budget : ℕ) (left : Option (List ℕ)) (bytes : List ℕ)
    (lines later : List (List ℕ)) → Stop E → Extent E → Type 0
IsFar m limit s budget left bytes lines later stop Whole = IsBetween m s budget bytes lines later stop
IsFar m limit s budget left bytes lines later stop (Inside at) = (at ≡ stop) × IsEndAt (after_lines m (Going s) lines) stop
IsFar m limit s budget left bytes lines later stop (AtEnd rest at) =
    (at ≡ stop) × (rest ≡ (kept_of limit bytes).rest) × (later ≡ []) × IsAtEnd left
    × IsToldBy (told_at_end m (after_lines m (Going s) lines) rest) stop

-- how many bytes were taken: fewer than the budget where the end of the input was taken, and else no more
abbrev pub IsShort : {E : Type 0} → (budget count : ℕ) → Extent E → Type 0
IsShort budget count Whole = count ≤ budget
IsShort budget count (Inside stop) = count ≤ budget
IsShort budget count (AtEnd rest stop) = count < budget

-- What was done to the scene is what these lines of the bytes taken allow, by how far they were taken.
pub record Allows {E : Type 0} (m : Machine E) (rule : Rule m) (limit : ℕ) (s : m.State) (budget : ℕ) (before left : Option (List ℕ))
    (stop : Stop E) (old new : Scene rule.Kept) : Type 0 where
  pub bytes : List ℕ
  pub taken : Takes before left bytes
  pub lines : List (List ℕ)
  pub later : List (List ℕ)
  pub parts : (kept_of limit bytes).ended ≡ lines ++ later
  pub extent : Extent E
  pub short : IsShort budget (length bytes) extent
  pub far : IsFar m limit s budget left bytes lines later stop extent
  pub allowed : rule.allows s lines extent old new
