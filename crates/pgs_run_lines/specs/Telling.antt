-- A command that tells a piece of a line, or none, and touches no area, as a machine over lines.
use Rattle.std.specs.Prelude.{ℕ, List, ◌++◌}
use Rattle.pgs_run_lines.specs.Machine.{Machine, RunState, Told}
use Rattle.pgs_run_lines.specs.May.{MayPut}

pub record Teller (E : Type 0) : Type 1 where
  pub State : Type 0
  -- the state after a line, and what the line tells
  pub after : State → List ℕ → State
  pub pieces : State → List ℕ → List (List ℕ)
  -- whether the run goes on in that state, or has ended there
  pub next : State → RunState State E
  -- what the end of the input tells behind its last line
  pub told : State → Told E
  -- the status at the end of the budget
  pub cut : E
  -- it can count so many lines more
  pub HasRoom : ℕ → State → Type 0

-- the last line has no line feed
abbrev pub told_last : {E : Type 0} (t : Teller E) → t.State → List ℕ → Told E
told_last t s line =
    let after = t.told (t.after s line) in record { pieces = t.pieces s line ++ after.pieces; status = after.status }

abbrev pub telling : {E : Type 0} → Teller E → Machine E
telling t = record {
  State = t.State;
  line = λ s line. record { pieces = t.pieces s line; next = t.next (t.after s line) };
  rest = told_last t;
  cut = λ s. t.cut;
  MayStop = MayPut;
  HasRoom = t.HasRoom;
}
