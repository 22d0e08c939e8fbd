-- What `Store::checkpoint` answers, and what becomes of the store.
use Rattle.std.specs.Prelude.{◌≡◌, ℕ, ◌+◌, Bool, true, false, IsTrue, Result, Ok, Err}
use Rattle.pgs_journal.specs.declared.journal.Journal.{Journal}
use Rattle.pgs_store.specs.declared.fault.CheckpointFault.{CheckpointFault}
use Rattle.pgs_store.specs.declared.fault.CheckpointFault.TheVariants.{Memory, DiskFault, NeedsReopen, EpochsSpent}
use Rattle.pgs_store.specs.State.{GuardState}
use Rattle.pgs_store.specs.Stored.{StoreState, StandsOn, IsSavedBy, renewed, next_journal}
use Rattle.pgs_world.specs.World.{View}

abbrev pub is_disk_fault : {T : Type 0} → Result T CheckpointFault → Bool
is_disk_fault (Ok done) = false
is_disk_fault (Err Memory) = false
is_disk_fault (Err DiskFault) = true
is_disk_fault (Err NeedsReopen) = false
is_disk_fault (Err EpochsSpent) = false

-- it comes before the first call on the world
abbrev pub is_early : {T : Type 0} → Result T CheckpointFault → Bool
is_early (Ok done) = false
is_early (Err Memory) = true
is_early (Err DiskFault) = false
is_early (Err NeedsReopen) = true
is_early (Err EpochsSpent) = true

-- the same is saved in the other area, of the next epoch, by the schema and the snapshot alone, and it stands on the world
pub record IsRenewed (guard : GuardState) (before after : Journal) (epoch : ℕ) (now : View) : Type 0 where
  pub numbered : epoch ≡ before.epoch + 1
  pub journal : after ≡ next_journal before after.end
  pub alone : IsTrue now.tells_bytes → IsSavedBy guard after (renewed guard) now.shown
  pub stands : StandsOn guard after now

-- An earlier call answered `DiskFault`, or none did and: the store has the last epoch; there was no memory; an area failed, and
-- only the mark is set; or the store was renewed.
abbrev pub Checkpoints : Result ℕ CheckpointFault → StoreState → StoreState → View → Type 0
Checkpoints (Ok epoch) old new now =
    (old.failed ≡ false) × (new.failed ≡ false) × (new.guard ≡ old.guard) × IsRenewed old.guard old.journal new.journal epoch now
Checkpoints (Err Memory) old new now = (old.failed ≡ false) × (new ≡ old)
Checkpoints (Err EpochsSpent) old new now = (old.failed ≡ false) × (old.journal.epoch ≡ 16777215) × (new ≡ old)
Checkpoints (Err DiskFault) old new now = (old.failed ≡ false) × (new ≡ record old { failed = true })
Checkpoints (Err NeedsReopen) old new now = (old.failed ≡ true) × (new ≡ old)
