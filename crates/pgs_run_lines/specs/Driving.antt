-- Where a machine stands inside its input, and how it is stopped there.
use Rattle.std.specs.Prelude.{◌≡◌, ◌⊎◌, ℕ, true, List, ◌++◌, Result, Ok, Err}
use Rattle.pgs_run_lines.specs.declared.stop.Stop.{Stop}
use Rattle.pgs_run_lines.specs.declared.stop.Stop.TheVariants as stops
use Rattle.pgs_run_lines.specs.Ending.{Shows}
use Rattle.pgs_run_lines.specs.Input.{kept_of}
use Rattle.pgs_run_lines.specs.Machine.{RunState, Going, Ended, Machine, Rule, Scene, Extent, Whole, Inside, after_lines, pieces_of_lines}
use Rattle.pgs_run_lines.specs.Pieces.{Shown, shown_of, ShowsAll}

-- an end of the machine's own is where the run stands; the other stops say nothing of it
abbrev pub IsEndAt : {S E : Type 0} → RunState S E → Stop E → Type 0
IsEndAt at (stops.Ended status) = at ≡ Ended status
IsEndAt at stops.ReadFault = Unit {0}
IsEndAt at stops.DiskFault = Unit {0}
IsEndAt at stops.PutFault = Unit {0}
IsEndAt at stops.Memory = Unit {0}

-- where a line led: to this state, or to an end of the machine's own
abbrev pub LineLeads : {T E : Type 0} (m : Machine E) → m.State → List ℕ → m.State → Result T (Stop E) → Type 0
LineLeads m s line state (Ok done) = (m.line s line).next ≡ Going state
LineLeads m s line state (Err stop) = IsEndAt (m.line s line).next stop

-- what is shown after a line that tells these pieces
abbrev pub LineShows : {T E : Type 0} → Shown → List (List ℕ) → Result T (Stop E) → Shown → Type 0
LineShows start pieces (Ok done) now = ShowsAll start pieces now
LineShows start pieces (Err stop) now = Shows start pieces stop now

-- The run that began in this state, on this scene, took these bytes: it stands where their lines lead, with the front of the
-- rest, what the machine holds there is true, all that the lines tell is shown, where it is what is put, and no more was done to the
-- scene than they allow.
pub record Runs {E : Type 0} (m : Machine E) (rule : Rule m) (limit : ℕ) (s : m.State) (start : Scene rule.Kept) (seen : List ℕ)
    (state : m.State) (line : List ℕ) (now : Scene rule.Kept) : Type 0 where
  pub stands : after_lines m (Going s) (kept_of limit seen).ended ≡ Going state
  pub begun : line ≡ (kept_of limit seen).rest
  pub holds : rule.holds state now.view
  pub shows : rule.tells ≡ true → ShowsAll (shown_of start.view) (pieces_of_lines m (Going s) (kept_of limit seen).ended) (shown_of now.view)
  pub allowed : rule.allows s (kept_of limit seen).ended Whole start now

-- how far lines were taken where the run stopped so among them: the last one gave the stop; want of memory may come between two lines too
abbrev pub IsInside : {E : Type 0} → Stop E → Extent E → Type 0
IsInside stop extent = (extent ≡ Inside stop) ⊎ ((extent ≡ Whole) × (stop ≡ stops.Memory))

-- it was stopped after these of its lines, or inside the last of them
pub record StopsAt {E : Type 0} (m : Machine E) (rule : Rule m) (s : m.State) (start : Scene rule.Kept) (ended : List (List ℕ))
    (stop : Stop E) (now : Scene rule.Kept) : Type 0 where
  pub until : List (List ℕ)
  pub later : List (List ℕ)
  pub parts : ended ≡ until ++ later
  pub extent : Extent E
  pub inside : IsInside stop extent
  pub shows : rule.tells ≡ true → Shows (shown_of start.view) (pieces_of_lines m (Going s) until) stop (shown_of now.view)
  pub ends : IsEndAt (after_lines m (Going s) until) stop
  pub allowed : rule.allows s until extent start now

abbrev pub TakesTo : {T E : Type 0} (m : Machine E) (rule : Rule m) → ℕ → m.State → Scene rule.Kept → List ℕ → m.State → List ℕ
    → Result T (Stop E) → Scene rule.Kept → Type 0
TakesTo m rule limit s start seen state line (Ok done) now = Runs m rule limit s start seen state line now
TakesTo m rule limit s start seen state line (Err stop) now = StopsAt m rule s start (kept_of limit seen).ended stop now

-- of these bytes all but the rest were taken
pub record RunsSoFar {E : Type 0} (m : Machine E) (rule : Rule m) (limit : ℕ) (s : m.State) (start : Scene rule.Kept)
    (seen bytes rest : List ℕ) (state : m.State) (line : List ℕ) (now : Scene rule.Kept) : Type 0 where
  pub taken : List ℕ
  pub parts : bytes ≡ taken ++ rest
  pub runs : Runs m rule limit s start (seen ++ taken) state line now
