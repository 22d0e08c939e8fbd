-- What a command is: what it tells, what it may do, and what it leaves.
use Rattle.std.specs.Prelude.{ℕ, Bool, List}
use Rattle.pgs_feed.specs.Deliveries.{Delivery}
use Rattle.pgs_run_lines.specs.Machine.{Told}
use Rattle.pgs_command.specs.declared.status.Status.{Status}
use Rattle.pgs_command.specs.Areas.{Areas}
use Rattle.pgs_command.specs.Setting.{Setting}

pub record CommandSpec : Type 1 where
  -- what is left to it in what it tells; for most commands nothing is
  pub Choice : Type 0
  -- what it tells by a choice, of an input and both areas, within so many bytes, where so many feeds are lost at its end
  pub told : Choice → (input : List ℕ) → Areas → (bytes lost : ℕ) → Told Status
  -- which choices are right, by what there is at the start and by the status
  pub IsRight : Choice → Setting → (budget : ℕ) → Status → Type 0
  pub reads_source : Bool
  pub uses_areas : Bool
  -- what it tells of this input rests on the areas
  pub AsksAreas : (input : List ℕ) → Type 0
  -- it may end so
  pub MayEnd : Status → Type 0
  -- it has nothing to read its source for
  pub ReadsInVain : Setting → Status → Type 0
  -- what it leaves of the world, at every moment and at its end
  pub Leaves : Setting → Setting → Status → Type 0
  -- what its feeds took
  pub Feeds : Setting → Setting → Status → Type 0
  -- what it gives to feeds, and how many puts were answered Ok before each line of it
  pub Gives : Setting → Setting → Status → List Delivery → Type 0
