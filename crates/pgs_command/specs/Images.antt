-- What a call leaves of both areas where calls on them may fail.
use Rattle.std.specs.Prelude.{◌≡◌, IsTrue}
use Rattle.pgs_world.specs.declared.area.Area.{Area}
use Rattle.pgs_world.specs.Moment.{Passes, StopsBy}
use Rattle.pgs_world.specs.World.{Triple, View, part}
use Rattle.pgs_command.specs.declared.status.Status.{Status}
use Rattle.pgs_command.specs.declared.status.Status.TheVariants.{Accepted, DiskFault, PutFault}

-- The shown areas are the same; and of each triple that a stop at some moment since the call's start may have left, on an honest
-- world, the two images stood together in a triple that a stop could leave at the start.
pub record KeepsImages (old new : View) : Type 0 where
  pub a : new.shown.a ≡ old.shown.a
  pub b : new.shown.b ≡ old.shown.b
  pub passes : Passes old new
  pub images : IsTrue old.honest → (c : Triple) → new.left_since old.moment c → (d : Triple) × old.may_leave d × (c.a ≡ d.a) × (c.b ≡ d.b)

-- The same of this area alone: its shown bytes are the same; and of each triple that a stop at some moment since the call's start may have
-- left, on an honest world, its image is one that a stop could leave at the start.
pub record KeepsArea (area : Area) (old new : View) : Type 0 where
  pub shown : part area new.shown ≡ part area old.shown
  pub passes : Passes old new
  pub stops : StopsBy (λ before after. part area after ≡ part area before) old new

-- with these statuses a run that puts its one line behind its work wrote nothing
abbrev pub IsUnwritten : Status → Type 0
IsUnwritten Accepted = ⊥
IsUnwritten PutFault = ⊥
IsUnwritten DiskFault = ⊥
IsUnwritten status = Unit {0}
