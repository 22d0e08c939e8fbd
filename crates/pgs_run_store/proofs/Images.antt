-- Images with the same bytes hold the same store.
use Rattle.std.proofs.Common.{◌≡◌, ℕ, List}
use Rattle.pgs_journal.specs.declared.journal.Journal.{Journal}
use Rattle.pgs_snapshot.proofs.Stores.{images_decide}
use Rattle.pgs_store.specs.State.{GuardState}
use Rattle.pgs_store.specs.Stored.{IsSavedBy, IsSavedIn}
use Rattle.pgs_world.specs.World.{Triple}

pub same_by : (guard : GuardState) (journal : Journal) (payloads : List (List ℕ)) (old new : Triple) → IsSavedBy guard journal payloads old → new.a ≡ old.a → new.b ≡ old.b → IsSavedBy guard journal payloads new
same_by guard journal payloads old new saved a b =
    record { has = images_decide journal.area journal.epoch journal.end journal.next payloads old new saved.has a b; saves = saved.saves }

pub same_images : (guard : GuardState) (journal : Journal) (old new : Triple) → IsSavedIn guard journal old → new.a ≡ old.a → new.b ≡ old.b → IsSavedIn guard journal new
same_images guard journal old new saved a b = (saved.0, same_by guard journal saved.0 old new saved.1 a b)
