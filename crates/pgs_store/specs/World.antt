-- What the calls of a store leave of a world.
use Rattle.std.specs.Prelude.{◌≡◌, Bool, true, false}
use Rattle.pgs_world.specs.declared.area.Area.{Area}
use Rattle.pgs_world.specs.Count.{RoseByOne}
use Rattle.pgs_world.specs.Disk.{IsSameBeside}
use Rattle.pgs_world.specs.Moment.{Passes, StopsBy, MakesNoPut}
use Rattle.pgs_world.specs.World.{View}

-- no more than this area was written: the other one and the output are the same at every moment, and no put was made
pub record StaysBeside (area : Area) (old new : View) : Type 0 where
  pub passes : Passes old new
  pub shown : IsSameBeside area old.shown new.shown
  pub stops : StopsBy (IsSameBeside area) old new
  pub no_put : MakesNoPut old new

-- the count of area faults rose, or it is as before
abbrev pub CountsFault : Bool → View → View → Type 0
CountsFault true old new = RoseByOne old.area_faults new.area_faults
CountsFault false old new = new.area_faults ≡ old.area_faults
