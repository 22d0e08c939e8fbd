-- What `Store::load` answers.
use Rattle.std.specs.Prelude.{◌≡◌, ℕ, Bool, true, false, IsTrue, List, Result, Ok, Err}
use Rattle.pgs_base.specs.declared.limits.Limits.{Limits}
use Rattle.pgs_resolve.specs.SchemaOf.{schema, schema_of}
use Rattle.pgs_schema.specs.Told.{answer_of}
use Rattle.pgs_snapshot.specs.Choice.{Choice, choice_of}
use Rattle.pgs_snapshot.specs.Choice as choices
use Rattle.pgs_store.specs.declared.fault.LoadFault.{LoadFault}
use Rattle.pgs_store.specs.declared.fault.LoadFault.TheVariants.{Memory, DiskFault, AlreadyStore, Foreign, Schema}
use Rattle.pgs_store.specs.Stored.{StoreState, StandsOn, opened, first_journal}
use Rattle.pgs_syntax.specs.declared.resolved.Resolved.{Resolved}
use Rattle.pgs_world.specs.World.{View}

-- an area failed
abbrev pub is_of_area : LoadFault → Bool
is_of_area Memory = false
is_of_area DiskFault = true
is_of_area AlreadyStore = false
is_of_area Foreign = false
is_of_area (Schema fault) = false

abbrev pub is_disk_fault : {T : Type 0} → Result T LoadFault → Bool
is_disk_fault (Ok done) = false
is_disk_fault (Err fault) = is_of_area fault

-- the text is refused
abbrev pub is_of_text : LoadFault → Bool
is_of_text Memory = false
is_of_text DiskFault = false
is_of_text AlreadyStore = false
is_of_text Foreign = false
is_of_text (Schema fault) = true

abbrev pub is_refused : {T : Type 0} → Result T LoadFault → Bool
is_refused (Ok done) = false
is_refused (Err fault) = is_of_text fault

-- something may have been written: the store was made, or an area failed
abbrev pub is_written : {T : Type 0} → Result T LoadFault → Bool
is_written (Ok done) = true
is_written (Err fault) = is_of_area fault

-- both areas, as far as the world tells its bytes
abbrev pub Finds : View → (Choice → Type 0) → Type 0
Finds view P = IsTrue view.tells_bytes → P (choice_of view.shown.a view.shown.b)

abbrev pub FindsNone : View → Type 0
FindsNone view = Finds view (λ found. found ≡ choices.no_store)

-- an area is a store, whole or damaged
abbrev pub IsStore : Choice → Type 0
IsStore (choices.chosen area epoch end next payloads) = Unit {0}
IsStore (choices.damaged area epoch number) = Unit {0}
IsStore choices.no_store = ⊥
IsStore choices.foreign = ⊥

-- why both areas are refused
abbrev pub IsOccupied : View → LoadFault → Type 0
IsOccupied view AlreadyStore = Finds view IsStore
IsOccupied view Foreign = Finds view (λ found. found ≡ choices.foreign)
IsOccupied view Memory = Unit {0}
IsOccupied view DiskFault = Unit {0}
IsOccupied view (Schema fault) = ⊥

abbrev pub HasSchema : List ℕ → Type 0
HasSchema text = (resolved : Resolved) × (schema_of text ≡ schema resolved)

-- the empty store of the text was made in area A with epoch 1, and it stands on the world
pub record IsLoaded (limits : Limits) (text : List ℕ) (store : StoreState) (old now : View) : Type 0 where
  pub resolved : Resolved
  pub of_text : schema_of text ≡ schema resolved
  pub guard : store.guard ≡ opened text resolved limits store.guard.seed
  pub journal : store.journal ≡ first_journal store.journal.end
  pub whole : store.failed ≡ false
  pub free : FindsNone old
  pub stands : StandsOn store.guard store.journal now

-- the text is tested first, and then both areas
abbrev pub Loads : Result StoreState LoadFault → Limits → List ℕ → View → View → Type 0
Loads (Ok store) limits text old now = IsLoaded limits text store old now
Loads (Err (Schema fault)) limits text old now = schema_of text ≡ answer_of fault
Loads (Err AlreadyStore) limits text old now = HasSchema text × Finds old IsStore
Loads (Err Foreign) limits text old now = HasSchema text × Finds old (λ found. found ≡ choices.foreign)
Loads (Err Memory) limits text old now = Unit {0}
Loads (Err DiskFault) limits text old now = Unit {0}
