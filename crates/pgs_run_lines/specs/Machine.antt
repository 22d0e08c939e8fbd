-- A command as a machine over lines: what it tells of an input within a budget, and what it may do to a world.
use Rattle.std.specs.Prelude.{◌≡◌, ℕ, ◌≤◌, Bool, true, false, List, [], ◌∷◌, ◌++◌, length, take, Result, Ok, Err, nat_le, if◌then◌else◌}
use Rattle.pgs_world.specs.Moment.{IsTimed}
use Rattle.pgs_world.specs.World.{View}
use Rattle.pgs_run_lines.specs.declared.stop.Stop.{Stop}
use Rattle.pgs_run_lines.specs.Input.{kept_of}

-- where a run stands between two lines: in a state of the machine, or at its end, with a status of the machine's own
pub data RunState (S E : Type 0) : Type 0 where
  Going : S → RunState S E
  Ended : E → RunState S E

-- what an ended line does: the pieces that it tells, and where the run stands then
pub record Step (S E : Type 0) : Type 0 where
  pub pieces : List (List ℕ)
  pub next : RunState S E

-- what is told: pieces, each one put, and a status
pub record Told (E : Type 0) : Type 0 where
  pub pieces : List (List ℕ)
  pub status : E

-- A machine over lines, with its statuses.
pub record Machine (E : Type 0) : Type 1 where
  pub State : Type 0
  -- what an ended line does; it is given the line's front
  pub line : State → List ℕ → Step State E
  -- what the end of the input tells, with the front of what follows the last line feed
  pub rest : State → List ℕ → Told E
  -- the status at the end of the budget; nothing is told there
  pub cut : State → E
  -- what may stop it before an end of its own
  pub MayStop : Stop E → Type 0
  -- it can count so many lines more
  pub HasRoom : ℕ → State → Type 0

-- where a run stands after a line: behind its end nothing more is taken
abbrev pub after_line : {E : Type 0} (m : Machine E) → RunState m.State E → List ℕ → RunState m.State E
after_line m (Going s) line = (m.line s line).next
after_line m (Ended status) line = Ended status

-- what a line tells
abbrev pub pieces_of_line : {E : Type 0} (m : Machine E) → RunState m.State E → List ℕ → List (List ℕ)
pieces_of_line m (Going s) line = (m.line s line).pieces
pieces_of_line m (Ended status) line = []

-- where a run stands after lines
abbrev pub after_lines : {E : Type 0} (m : Machine E) → RunState m.State E → List (List ℕ) → RunState m.State E
after_lines m at [] = at
after_lines m at (line ∷ lines) = after_lines m (after_line m at line) lines

-- what lines tell
abbrev pub pieces_of_lines : {E : Type 0} (m : Machine E) → RunState m.State E → List (List ℕ) → List (List ℕ)
pieces_of_lines m at [] = []
pieces_of_lines m at (line ∷ lines) = pieces_of_line m at line ++ pieces_of_lines m (after_line m at line) lines

-- what the end of the input tells, behind this rest
abbrev pub told_at_end : {E : Type 0} (m : Machine E) → RunState m.State E → List ℕ → Told E
told_at_end m (Going s) rest = m.rest s rest
told_at_end m (Ended status) rest = record { pieces = []; status = status }

-- the status at the end of the budget
abbrev pub status_at_cut : {E : Type 0} (m : Machine E) → RunState m.State E → E
status_at_cut m (Going s) = m.cut s
status_at_cut m (Ended status) = status

-- what is told of an input that is read to its end
abbrev pub told_whole : {E : Type 0} (m : Machine E) → ℕ → m.State → List ℕ → Told E
told_whole m limit s input =
    let lines = kept_of limit input in
    let end = told_at_end m (after_lines m (Going s) lines.ended) lines.rest in
    record { pieces = pieces_of_lines m (Going s) lines.ended ++ end.pieces; status = end.status }

-- what is told of an input of which these are the bytes within the budget: only lines with their line feed count
abbrev pub told_cut : {E : Type 0} (m : Machine E) → ℕ → m.State → List ℕ → Told E
told_cut m limit s input =
    let lines = kept_of limit input in
    record { pieces = pieces_of_lines m (Going s) lines.ended; status = status_at_cut m (after_lines m (Going s) lines.ended) }

-- what a machine in this state tells of an input within a budget, a line being kept to the limit and one byte
unfoldable pub told_by : {E : Type 0} (m : Machine E) → ℕ → m.State → List ℕ → ℕ → Told E
told_by m limit s input budget = if nat_le budget (length input) then told_cut m limit s (take budget input) else told_whole m limit s input

-- it can count at least so many lines more
pub record HasRoomFor {E : Type 0} (m : Machine E) (lines : ℕ) (s : m.State) : Type 0 where
  pub room : ℕ
  pub enough : lines ≤ room
  pub has : m.HasRoom room s

-- a world, and what a taker keeps beside its state
pub record Scene (Kept : Type 0) : Type 1 where
  pub view : View
  pub kept : Kept

abbrev pub scene_of : {Kept : Type 0} → View → Kept → Scene Kept
scene_of view kept = record { view = view; kept = kept }

-- how far lines were taken
pub data Extent (E : Type 0) : Type 0 where
  -- all of them
  Whole : Extent E
  -- all but the last, and the last stopped the run so
  Inside : Stop E → Extent E
  -- all of them, and then the end of the input, with this rest behind them, which ended the run so
  AtEnd : (rest : List ℕ) → Stop E → Extent E

-- how far a line was taken
abbrev pub extent_of : {T E : Type 0} → Result T (Stop E) → Extent E
extent_of (Ok done) = Whole
extent_of (Err stop) = Inside stop

-- what is said of a machine's pieces, where they are what is put
abbrev pub WhereTold : Bool → Type 0 → Type 0
WhereTold true Said = Said
WhereTold false Said = Unit {0}

-- What the machine holds of a world between two lines, and what the taking of lines from a state on may do to a scene. It may do
-- nothing, and one thing after another.
pub record Rule {E : Type 0} (m : Machine E) : Type 1 where
  -- what a taker keeps beside its state
  pub Kept : Type 0
  -- whether the machine's pieces are what is put; where more than the lines decides what is, `allows` says it
  pub tells : Bool
  pub holds : m.State → View → Type 0
  pub allows : m.State → List (List ℕ) → Extent E → Scene Kept → Scene Kept → Type 0
  pub none : (s : m.State) (scene : Scene Kept) → IsTimed scene.view → holds s scene.view → allows s [] Whole scene scene
  pub on : (s t : m.State) (lines more : List (List ℕ)) (extent : Extent E) (old mid new : Scene Kept)
      → after_lines m (Going s) lines ≡ Going t → holds t mid.view → allows s lines Whole old mid → allows t more extent mid new
      → allows s (lines ++ more) extent old new
