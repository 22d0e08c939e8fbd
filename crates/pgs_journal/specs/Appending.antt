-- What an append of a record gives.
use Rattle.std.specs.Prelude.{◌≡◌, ℕ, ◌+◌, ◌<◌, List, [], ◌∷◌, ◌++◌, length, Result, IsTrue, OnOk, OnErr}
use Rattle.pgs_codec.specs.Frame.{framed}
use Rattle.pgs_world.specs.declared.area_limit.TheConstants.{AREA_LIMIT}
use Rattle.pgs_world.specs.declared.fault.AreaFault.{AreaFault}
use Rattle.pgs_world.specs.Disk.{IsSameBeside}
use Rattle.pgs_world.specs.Moment.{Passes, StopsBy, ShowsOne, IsSynced, IsSettled, MakesNoPut}
use Rattle.pgs_world.specs.World.{View, part}
use Rattle.pgs_journal.specs.Appended.{GoesOn}
use Rattle.pgs_journal.specs.Calls.{HasAreaCause}
use Rattle.pgs_journal.specs.declared.journal.Journal.{Journal}
use Rattle.pgs_journal.specs.Format.{advanced, Holds, IsNextWithin}
use Rattle.pgs_journal.specs.Stops.{Turns, Appends}

-- This frame is appended to the journal.
pub record IsRecordAppended {T : Type 0} (before after : Journal) (frame : List ℕ) (result : Result T AreaFault) (failed : Type 0) (old new : View) : Type 0 where
  -- after Ok the area holds the new record, and it is on the disk
  pub holds : (payload : List ℕ) (payloads : List (List ℕ)) → frame ≡ framed before.next payload → Holds before.next before.epoch payloads before.end (part before.area old.shown)
      → OnOk result (IsTrue old.tells_bytes → Holds after.next after.epoch (payloads ++ payload ∷ []) after.end (part after.area new.shown))
  pub synced : OnOk result (IsSynced before.area new)
  -- nothing is pending then, where nothing was
  pub settled : OnOk result (IsSettled old → IsSettled new)
  -- the same journal, which ends behind the frame, below 2^40, and whose next number is one more, within the end again
  pub area : after.area ≡ before.area
  pub epoch : after.epoch ≡ before.epoch
  pub end : OnOk result (after.end ≡ before.end + length frame)
  pub next : OnOk result (after.next ≡ advanced before.next)
  pub within : OnOk result (after.end < AREA_LIMIT)
  pub next_within : OnOk result (IsNextWithin after.next after.end)
  -- after a fault the value is as it was
  pub kept : OnErr result (after ≡ before)
  -- a stop at any moment leaves the records from before, or one more
  pub stops : (payload : List ℕ) → frame ≡ framed before.next payload → IsTrue old.tells_bytes
      → StopsBy (Turns before.area (Appends before.next before.epoch before.end payload)) old new
  -- what it leaves came by the writes that a reading beside it may meet
  pub writes : IsTrue old.tells_bytes → StopsBy (Turns before.area (GoesOn before.next before.epoch before.end)) old new
  -- it leaves the other area and the output as they were, and so does the whole call
  pub stops_beside : StopsBy (IsSameBeside before.area) old new
  pub beside : IsSameBeside before.area old.shown new.shown
  -- the world goes on, a fault is counted once, and no put is made
  pub passes : Passes old new
  pub image : ShowsOne new
  pub faults : HasAreaCause result failed old new
  pub no_put : MakesNoPut old new
