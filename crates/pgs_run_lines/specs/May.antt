-- Which stops may come.
use Rattle.pgs_run_lines.specs.declared.stop.Stop.{Stop}
use Rattle.pgs_run_lines.specs.declared.stop.Stop.TheVariants as stops
use Rattle.pgs_run_lines.specs.Machine.{Machine}

-- it puts and touches no area
abbrev pub MayPut : {E : Type 0} → Stop E → Type 0
MayPut (stops.Ended status) = Unit {0}
MayPut stops.ReadFault = ⊥
MayPut stops.DiskFault = ⊥
MayPut stops.PutFault = Unit {0}
MayPut stops.Memory = Unit {0}

-- A fault of a read and want of memory may come of the reading; the other faults only where the machine says that they may.
abbrev pub MayCome : {E : Type 0} → Machine E → Stop E → Type 0
MayCome m (stops.Ended status) = Unit {0}
MayCome m stops.ReadFault = Unit {0}
MayCome m stops.DiskFault = m.MayStop stops.DiskFault
MayCome m stops.PutFault = m.MayStop stops.PutFault
MayCome m stops.Memory = Unit {0}
