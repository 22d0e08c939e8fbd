-- What the making of a store in one area gives.
use Rattle.std.specs.Prelude.{◌≡◌, ℕ, ◌+◌, ◌≤◌, ◌<◌, List, length, Some, Result, IsTrue, IfOk, OnOk}
use Rattle.pgs_world.specs.declared.area.Area.{Area}
use Rattle.pgs_world.specs.declared.area_limit.TheConstants.{AREA_LIMIT}
use Rattle.pgs_world.specs.declared.fault.AreaFault.{AreaFault}
use Rattle.pgs_world.specs.Disk.{IsSameBeside}
use Rattle.pgs_world.specs.Moment.{StopsBy, IsSynced, IsSettled}
use Rattle.pgs_world.specs.World.{View, part}
use Rattle.pgs_journal.specs.Calls.{IsStep}
use Rattle.pgs_journal.specs.declared.journal.Journal.{Journal}
use Rattle.pgs_journal.specs.Format.{Holds, IsFrames}
use Rattle.pgs_journal.specs.Stops.{Turns, Creates}

-- A store of this epoch is made in this area: its records are those of these frames, and the record behind them has the next number.
pub record IsStoreMade (area : Area) (epoch next : ℕ) (first : List ℕ) (result : Result Journal AreaFault) (failed : Type 0) (old new : View) : Type 0 where
  -- after Ok the area holds these records, where the world tells its bytes
  pub holds : (payloads : List (List ℕ)) → IsFrames payloads next first
      → IfOk result (λ journal. IsTrue old.tells_bytes → Holds journal.next epoch payloads journal.end (part area new.shown))
  -- nothing is pending then, where nothing was
  pub settled : OnOk result (IsSettled old → IsSettled new)
  -- the journal ends behind the frames
  pub journal : IfOk result (λ journal. journal ≡ record { area = area; epoch = epoch; end = 16 + length first; next = Some next })
  -- below 2^40, and its next number is at most that end
  pub within : IfOk result (λ journal. journal.end < AREA_LIMIT)
  pub next_within : IfOk result (λ journal. next ≤ journal.end)
  -- where the area was synced, a stop at any moment leaves of it what it was, no store, or the new store
  pub stops : (payloads : List (List ℕ)) → IsFrames payloads next first → IsTrue old.tells_bytes → IsSynced area old
      → StopsBy (Turns area (Creates epoch payloads (16 + length first))) old new
  -- a stop leaves the other area and the output as they were
  pub stops_beside : StopsBy (IsSameBeside area) old new
  -- and so does the whole call
  pub beside : IsSameBeside area old.shown new.shown
  -- the world goes on, a fault is counted once, and no put is made
  pub step : IsStep result failed old new
