-- What a store answers to another schema, by what becomes of its guard and its journal.
use Rattle.std.proofs.Common.{◌≡◌, true, false, List, ℕ, Result, Ok, Err, refl}
use Rattle.pgs_journal.specs.declared.journal.Journal.{Journal}
use Rattle.pgs_resolve.specs.SchemaOf.{schema_of}
use Rattle.pgs_schema.specs.declared.fault.SchemaUnread.{SchemaUnread}
use Rattle.pgs_schema.specs.declared.fault.SchemaUnread.TheVariants as unreads
use Rattle.pgs_schema.specs.Told.{IsRefused}
use Rattle.pgs_store.specs.declared.fault.EvolveFault.{EvolveFault}
use Rattle.pgs_store.specs.declared.fault.EvolveFault.TheVariants.{Memory, DiskFault, NeedsReopen, OldFormat, Schema, Violated}
use Rattle.pgs_store.specs.declared.fault.SchemaRefusal.{SchemaRefusal}
use Rattle.pgs_store.specs.declared.fault.SchemaRefusal.TheVariants as refusals
use Rattle.pgs_store.specs.Evolves.{Evolves, IsOpen, IsUnfit, Renews, is_disk_fault, of_refusal}
use Rattle.pgs_store.specs.State.{GuardState}
use Rattle.pgs_store.specs.Stored.{StoreState}
use Rattle.pgs_store.specs.Unread.{of_evolve, of_schema}
use Rattle.pgs_store.specs.World.{CountsFault}
use Rattle.pgs_world.specs.World.{View}
use Rattle.pgs_store.proofs.Exits.{same_store, store_of, unmarked}

pub evolves : (answer : Result (Unit {0}) EvolveFault) (old : StoreState) (guard : GuardState) (journal : Journal) (text : List ℕ) (now : View)
    → IsOpen old → Renews answer old.guard guard old.journal journal text now → Evolves answer old (store_of guard journal (is_disk_fault answer)) text now
evolves (Ok done) old guard journal text now opened is = (opened, refl, is)
evolves (Err Memory) old guard journal text now opened is = (opened, unmarked old guard journal opened.whole is.0 is.1)
evolves (Err (Schema fault)) old guard journal text now opened is = (opened, unmarked old guard journal opened.whole is.0 is.1, is.2)
evolves (Err (Violated violation)) old guard journal text now opened is = (opened, unmarked old guard journal opened.whole is.0 is.1, is.2)
evolves (Err DiskFault) old guard journal text now opened is = (opened, same_store old guard journal true is.0 is.1, is.2)
evolves (Err NeedsReopen) old guard journal text now opened is = absurd is
evolves (Err OldFormat) old guard journal text now opened is = absurd is

-- a text that wasn't read
pub unread : (old : StoreState) (text : List ℕ) (now : View) → IsOpen old → (why : SchemaUnread) → IsRefused (schema_of text) why
    → Evolves (Err (of_evolve why)) old old text now
unread old text now opened unreads.Memory is = (opened, refl)
unread old text now opened (unreads.Schema fault) is = (opened, refl, is)

-- ---- a schema that wasn't taken

pub unrenewed : (answer : Result (Unit {0}) EvolveFault) (fault : EvolveFault) (refusal : SchemaRefusal) → answer ≡ Err fault → fault ≡ of_refusal refusal
    → (guard : GuardState) (journal : Journal) (text : List ℕ) (now : View) → IsUnfit guard text refusal → Renews answer guard guard journal journal text now
unrenewed answer fault refusals.Memory is why guard journal text now unfit = rw (is, why) (refl, refl)
unrenewed answer fault (refusals.Schema cause) is why guard journal text now unfit = rw (is, why) (refl, refl, unfit)
unrenewed answer fault (refusals.Violated violation) is why guard journal text now unfit = rw (is, why) (refl, refl, unfit)

pub uncounted : (answer : Result (Unit {0}) EvolveFault) (fault : EvolveFault) (refusal : SchemaRefusal) → answer ≡ Err fault → fault ≡ of_refusal refusal
    → (view : View) → CountsFault (is_disk_fault answer) view view
uncounted answer fault refusals.Memory is why view = rw (is, why) refl
uncounted answer fault (refusals.Schema cause) is why view = rw (is, why) refl
uncounted answer fault (refusals.Violated violation) is why view = rw (is, why) refl

pub unfailed : (answer : Result (Unit {0}) EvolveFault) (fault : EvolveFault) (refusal : SchemaRefusal) → answer ≡ Err fault → fault ≡ of_refusal refusal
    → is_disk_fault answer ≡ false
unfailed answer fault refusals.Memory is why = rw (is, why) refl
unfailed answer fault (refusals.Schema cause) is why = rw (is, why) refl
unfailed answer fault (refusals.Violated violation) is why = rw (is, why) refl

-- a text that wasn't read, as such a refusal
pub of_unread : (fault : EvolveFault) (why : SchemaUnread) → fault ≡ of_evolve why → fault ≡ of_refusal (of_schema why)
of_unread fault unreads.Memory is = is
of_unread fault (unreads.Schema cause) is = is
