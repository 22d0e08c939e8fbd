-- How a run of `apply` ends behind its lines.
use Rattle.std.specs.Prelude.{◌≡◌, ◌⊎◌, ℕ, List, Option, Some, None}
use Rattle.pgs_run_lines.specs.Replies.{PutsReply}
use Rattle.pgs_world.specs.Moment.{IsQuiet, MakesNoPut}
use Rattle.pgs_world.specs.World.{View}
use Rattle.pgs_command.specs.declared.status.Status.{Status}
use Rattle.pgs_command.specs.declared.status.Status.TheVariants.{PutFault, Memory}

-- nothing was done to the world
pub record StaysStill (old new : View) : Type 0 where
  pub quiet : IsQuiet old new
  pub no_put : MakesNoPut old new
  pub area_faults : new.area_faults ≡ old.area_faults

-- Without a last piece the status is the answer. With one there was no memory for it, or it was put, or its put failed.
abbrev pub EndsRun : Option (List ℕ) → Status → View → Status → View → Type 0
EndsRun None status old result new = (result ≡ status) × StaysStill old new
EndsRun (Some piece) status old result new = ((result ≡ Memory) × StaysStill old new) ⊎ PutsReply piece status PutFault old result new
