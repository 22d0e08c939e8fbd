-- Which statuses say that a call outside failed.
use Rattle.std.specs.Prelude.{Bool, true, false}
use Rattle.pgs_command.specs.declared.status.Status.{Status}
use Rattle.pgs_command.specs.declared.status.Status.TheVariants.{DiskFault, ReadFault, PutFault}

-- a read failed
abbrev pub fails_read : Status → Bool
fails_read ReadFault = true
fails_read status = false

-- a call on the world failed
abbrev pub fails_world : Status → Bool
fails_world DiskFault = true
fails_world PutFault = true
fails_world status = false
