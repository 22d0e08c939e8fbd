-- What a call on two areas finds, and what holds of the images then.
use Rattle.std.specs.Prelude.{◌≡◌, ℕ, Bool, true, false, List, Option, Some, None, Result, Ok, Err, IsTrue, IfOk, IfErr}
use Rattle.pgs_codec.specs.declared.command.Command.{Command}
use Rattle.pgs_codec.specs.declared.command.Command.TheVariants.{Schema, Snapshot, Txn}
use Rattle.pgs_world.specs.declared.area.Area.{Area}
use Rattle.pgs_world.specs.World.{Triple, View, part}
use Rattle.pgs_journal.specs.Bounds.{IsBoundedStore}
use Rattle.pgs_journal.specs.Format.{Holds}
use Rattle.pgs_snapshot.specs.Choice.{Choice, choice_of}
use Rattle.pgs_snapshot.specs.Choice as choices
use Rattle.pgs_snapshot.specs.declared.choosing.Chosen.{Chosen}
use Rattle.pgs_snapshot.specs.declared.choose_fault.ChooseFault.{ChooseFault}
use Rattle.pgs_snapshot.specs.declared.choose_fault.ChooseFault.TheVariants as faults

-- of both images of a triple this store is chosen, and its area holds its records, as an append to it asks
pub record HasStore (area : Area) (epoch end : ℕ) (next : Option ℕ) (payloads : List (List ℕ)) (triple : Triple) : Type 0 where
  pub choice : choice_of triple.a triple.b ≡ choices.chosen area epoch end next payloads
  pub holds : Holds next epoch payloads end (part area triple)

-- what may be appended to a store with this next number: a transaction or, in the second format, a schema
abbrev pub IsAppendable : Option ℕ → Option Command → Type 0
IsAppendable next (Some (Txn txn)) = Unit {0}
IsAppendable (Some number) (Some (Schema text)) = Unit {0}
IsAppendable None (Some (Schema text)) = ⊥
IsAppendable next (Some (Snapshot commits nodes edges)) = ⊥
IsAppendable next None = ⊥

-- damaged at the record of this number
abbrev pub IsDamagedAt : ℕ → Choice → Type 0
IsDamagedAt number (choices.damaged area epoch at) = at ≡ number
IsDamagedAt number choice = ⊥

-- why no store is given, by what two areas are; want of memory and faults of an area say nothing of it
abbrev pub Refuses : ChooseFault → Choice → Type 0
Refuses faults.Memory choice = Unit {0}
Refuses faults.DiskFault choice = Unit {0}
Refuses faults.NoStore choice = choice ≡ choices.no_store
Refuses faults.Foreign choice = choice ≡ choices.foreign
Refuses (faults.BadRecord number) choice = IsDamagedAt number choice

-- both areas were read: there was memory, and no call failed
abbrev pub is_read : Result Chosen ChooseFault → Bool
is_read (Ok chosen) = true
is_read (Err faults.Memory) = false
is_read (Err faults.DiskFault) = false
is_read (Err fault) = true

-- What is found in two areas that are only read: the store that is chosen, or why there is none, as far as the world tells its bytes. What
-- is given of a store is within its bounds on every world.
pub record Finds (result : Result Chosen ChooseFault) (old new : View) : Type 0 where
  pub chosen : IfOk result (λ it. IsTrue old.tells_bytes → choice_of old.shown.a old.shown.b ≡ choices.chosen it.area it.epoch it.end it.next it.payloads)
  pub refused : IfErr result (λ fault. IsTrue old.tells_bytes → Refuses fault (choice_of old.shown.a old.shown.b))
  pub stands : IfOk result (λ it. IsTrue new.tells_bytes → HasStore it.area it.epoch it.end it.next it.payloads new.shown)
  pub bounds : IfOk result (λ it. IsBoundedStore it.epoch it.end it.next it.payloads)
