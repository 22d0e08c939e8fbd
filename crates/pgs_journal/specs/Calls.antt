-- How a call on the areas of a world ends.
use Rattle.std.specs.Prelude.{◌≡◌, Result, OnOk, OnErr}
use Rattle.pgs_world.specs.declared.fault.AreaFault.{AreaFault}
use Rattle.pgs_world.specs.Count.{RoseByOne}
use Rattle.pgs_world.specs.Moment.{Passes, ShowsOne, MakesNoPut}
use Rattle.pgs_world.specs.World.{View}

-- it fails exactly where the count of area faults rose, by one; then the call that failed was the last on the world
pub record HasAreaCause {T : Type 0} (result : Result T AreaFault) (failed : Type 0) (old new : View) : Type 0 where
  pub cause : OnErr result (RoseByOne old.area_faults new.area_faults)
  pub last : OnErr result failed
  pub no_cause : OnOk result (new.area_faults ≡ old.area_faults)

-- the same of a call that may fail otherwise too, where it answers an area's fault
pub record HasAreaCauseWhere (fault failed : Type 0) (old new : View) : Type 0 where
  pub cause : fault → RoseByOne old.area_faults new.area_faults
  pub last : fault → failed
  pub no_cause : (fault → ⊥) → new.area_faults ≡ old.area_faults

-- a step in which an area is written: the world goes on, and no put is made
pub record IsStep {T : Type 0} (result : Result T AreaFault) (failed : Type 0) (old new : View) : Type 0 where
  pub passes : Passes old new
  pub image : ShowsOne new
  pub faults : HasAreaCause result failed old new
  pub no_put : MakesNoPut old new
