-- What a stop may leave of one part of a world, as a file or an output: now, and at each moment so far. The moments are the world's, so
-- that those of its parts go together.
use Rattle.std.specs.Prelude.{◌≡◌, ◌⊎◌, ℕ, ◌+◌, ◌<◌, ◌≤◌, List, [], IsTrue, false}
use Rattle.std.proofs.lemmas.Bool.{false≢true}

pub record Past : Type 1 where
  -- what a stop now may leave
  pub may_leave : List ℕ → Type 0
  -- what a stop at that moment, or in the calls that began at it, may have left
  pub left : ℕ → List ℕ → Type 0
  -- all its calls began at moments before this one
  pub until : ℕ

-- of which nothing is told
abbrev pub no_past : Past
no_past = record { may_leave = λ _. ⊥; left = λ _ _. ⊥; until = 0 }

-- of what is empty, and stays so
abbrev pub empty_past : Past
empty_past = record { may_leave = λ c. c ≡ []; left = λ t c. c ≡ []; until = 0 }

-- since the last call a stop leaves what it may leave now
pub record IsPast (past : Past) : Type 0 where
  pub settled : (t : ℕ) (c : List ℕ) → past.until ≤ t → past.left t c → past.may_leave c
  pub now : (t : ℕ) (c : List ℕ) → past.until ≤ t → past.may_leave c → past.left t c

-- Calls that began at this moment led from the one to the other. What they may do to what a stop leaves is this step.
pub record GoesOn (Step : List ℕ → List ℕ → Type 0) (t : ℕ) (old new : Past) : Type 0 where
  pub until : new.until ≤ t + 1
  -- what was left earlier is as it was told
  pub earlier : (u : ℕ) (c : List ℕ) → u < t → new.left u c → old.left u c
  pub kept : (u : ℕ) (c : List ℕ) → u ≤ t → old.left u c → new.left u c
  -- a stop in the calls leaves what it left before, or what the step makes of it
  pub during : (c : List ℕ) → new.left t c → old.left t c ⊎ ((d : List ℕ) × old.may_leave d × Step d c)
  -- and so does a stop behind them, which also is one at this moment
  pub after : (c : List ℕ) → new.may_leave c → (d : List ℕ) × old.may_leave d × Step d c
  pub reached : (c : List ℕ) → new.may_leave c → new.left t c

-- the step of a call that changes nothing
abbrev pub IsSame : List ℕ → List ℕ → Type 0
IsSame old new = new ≡ old

-- of what tells no stops anything can be said of what it tells
pub tells_no_stops : {P : Type 0} → IsTrue false → P
tells_no_stops tells = absurd (false≢true tells)
