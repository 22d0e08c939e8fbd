-- How a world goes on from moment to moment, and what a stop since a moment may leave.
use Rattle.std.specs.Prelude.{◌≡◌, ◌⊎◌, ℕ, ◌≤◌, IsTrue}
use Rattle.pgs_world.specs.declared.area.Area.{Area}
use Rattle.pgs_world.specs.World.{Triple, View, part}

-- what holds of every world at every moment
pub record IsTimed (view : View) : Type 0 where
  -- this moment is one of those since an earlier one
  pub now : (t : ℕ) (c : Triple) → t ≤ view.moment → view.may_leave c → view.left_since t c
  -- since this moment there is no other
  pub only_now : (c : Triple) → view.left_since view.moment c → view.may_leave c
  -- the moments since a later one are among those since an earlier one
  pub earlier : (t u : ℕ) (c : Triple) → t ≤ u → view.left_since u c → view.left_since t c
  -- a stop leaves the whole output so far
  pub output : IsTrue view.honest → IsTrue view.tells_output → (c : Triple) → view.may_leave c → c.output ≡ view.shown.output

-- The world went on from the one view to the other.
pub record Passes (old new : View) : Type 0 where
  pub honest : new.honest ≡ old.honest
  pub tells_bytes : new.tells_bytes ≡ old.tells_bytes
  pub tells_output : new.tells_output ≡ old.tells_output
  pub later : old.moment ≤ new.moment
  pub area_faults : old.area_faults ≤ new.area_faults
  pub put_faults : old.put_faults ≤ new.put_faults
  pub puts : old.puts ≤ new.puts
  -- what a stop since an earlier moment may have left was told so before, or was left since then
  pub since : (t : ℕ) (c : Triple) → t ≤ old.moment → new.left_since t c → old.left_since t c ⊎ new.left_since old.moment c
  -- and nothing of the past is forgotten
  pub past : (t : ℕ) (c : Triple) → t ≤ old.moment → old.left_since t c → new.left_since t c
  pub timed : IsTimed new

-- each triple that a stop may have left since then comes by this step from one that a stop could leave then
abbrev pub StopsBy : (Triple → Triple → Type 0) → View → View → Type 0
StopsBy step old new = IsTrue old.honest → (c : Triple) → new.left_since old.moment c → (d : Triple) × old.may_leave d × step d c

-- each triple that a stop may have left since then has P
abbrev pub EachSince : (Triple → Type 0) → View → View → Type 0
EachSince P old new = (c : Triple) → new.left_since old.moment c → P c

-- what was only read: the same is shown, and a stop leaves nothing that it couldn't leave before
pub record IsQuiet (old new : View) : Type 0 where
  pub passes : Passes old new
  pub shown : new.shown ≡ old.shown
  pub stops : IsTrue old.honest → (c : Triple) → new.left_since old.moment c → old.may_leave c

-- it shows these images and this output, as far as it tells
pub record Shows (view : View) (triple : Triple) : Type 0 where
  pub bytes : IsTrue view.tells_bytes → (area : Area) → part area triple ≡ part area view.shown
  pub output : IsTrue view.tells_output → triple.output ≡ view.shown.output

-- what is shown of an honest world is one of the triples that a stop may leave
abbrev pub ShowsOne : View → Type 0
ShowsOne view = IsTrue view.honest → (c : Triple) × view.may_leave c × Shows view c

-- on an honest world that tells its bytes, a stop leaves of this area what a read gives
abbrev pub IsSynced : Area → View → Type 0
IsSynced area view = IsTrue view.honest → IsTrue view.tells_bytes → (c : Triple) → view.may_leave c → part area c ≡ part area view.shown

-- an honest world that tells its bytes, on which nothing is pending: a stop leaves of both areas what reads give
pub record IsSettled (view : View) : Type 0 where
  pub honest : IsTrue view.honest
  pub tells_bytes : IsTrue view.tells_bytes
  pub a : (c : Triple) → view.may_leave c → c.a ≡ view.shown.a
  pub b : (c : Triple) → view.may_leave c → c.b ≡ view.shown.b

-- no put was made: the counts of puts are as before
pub record MakesNoPut (old new : View) : Type 0 where
  pub puts : new.puts ≡ old.puts
  pub put_faults : new.put_faults ≡ old.put_faults
