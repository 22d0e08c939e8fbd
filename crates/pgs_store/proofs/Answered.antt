-- What a store answers to a transaction, by what becomes of its guard and its journal.
use Rattle.std.proofs.Common.{◌≡◌, ℕ, true, false, Result, Ok, Err, refl}
use Rattle.pgs_decide.specs.declared.refusal.GuardRefusal.{GuardRefusal}
use Rattle.pgs_decide.specs.declared.refusal.GuardRefusal.TheVariants as refusals
use Rattle.pgs_decide.specs.Refused.{IsRejected}
use Rattle.pgs_graph.specs.declared.operation.Txn.{Txn}
use Rattle.pgs_journal.specs.declared.journal.Journal.{Journal}
use Rattle.pgs_store.specs.declared.fault.ApplyFault.{ApplyFault}
use Rattle.pgs_store.specs.declared.fault.ApplyFault.TheVariants.{Memory, DiskFault, NeedsReopen, Rejected}
use Rattle.pgs_store.specs.Applies.{Applies, Journals, decided, is_disk_fault}
use Rattle.pgs_store.specs.Refused.{of_guard}
use Rattle.pgs_store.specs.State.{GuardState}
use Rattle.pgs_store.specs.Stored.{StoreState}
use Rattle.pgs_store.specs.World.{CountsFault}
use Rattle.pgs_world.specs.World.{View}
use Rattle.pgs_store.proofs.Exits.{same_store, store_of, unmarked}

-- of a store whose mark wasn't set
pub applies : (answer : Result ℕ ApplyFault) (old : StoreState) (guard : GuardState) (journal : Journal) (txn : Txn) (now : View) → old.failed ≡ false
    → Journals answer old.guard guard old.journal journal txn now → Applies answer old (store_of guard journal (is_disk_fault answer)) txn now
applies (Ok number) old guard journal txn now whole is = (whole, refl, is.0, is.1)
applies (Err Memory) old guard journal txn now whole is = (whole, unmarked old guard journal whole is.0 is.1)
applies (Err (Rejected rejection)) old guard journal txn now whole is = (whole, unmarked old guard journal whole is.0 is.1, is.2)
applies (Err DiskFault) old guard journal txn now whole is = (whole, same_store old guard journal true is.0 is.1)
applies (Err NeedsReopen) old guard journal txn now whole is = absurd is

-- a transaction that wasn't taken
pub untaken : (answer : Result ℕ ApplyFault) (fault : ApplyFault) (refusal : GuardRefusal) → answer ≡ Err fault → fault ≡ of_guard refusal
    → (guard : GuardState) (journal : Journal) (txn : Txn) (now : View) → IsRejected (decided guard txn) refusal → Journals answer guard guard journal journal txn now
untaken answer fault refusals.Memory is why guard journal txn now rejected = rw (is, why) (refl, refl)
untaken answer fault (refusals.Rejected rejection) is why guard journal txn now rejected = rw (is, why) (refl, refl, rejected)

pub uncounted : (answer : Result ℕ ApplyFault) (fault : ApplyFault) (refusal : GuardRefusal) → answer ≡ Err fault → fault ≡ of_guard refusal
    → (view : View) → CountsFault (is_disk_fault answer) view view
uncounted answer fault refusals.Memory is why view = rw (is, why) refl
uncounted answer fault (refusals.Rejected rejection) is why view = rw (is, why) refl

pub unfailed : (answer : Result ℕ ApplyFault) (fault : ApplyFault) (refusal : GuardRefusal) → answer ≡ Err fault → fault ≡ of_guard refusal
    → is_disk_fault answer ≡ false
unfailed answer fault refusals.Memory is why = rw (is, why) refl
unfailed answer fault (refusals.Rejected rejection) is why = rw (is, why) refl
