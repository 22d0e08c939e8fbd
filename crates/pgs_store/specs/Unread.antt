-- Why a schema text has no schema, and why no store is chosen, as faults of the calls on a store.
use Rattle.pgs_schema.specs.declared.fault.SchemaUnread.{SchemaUnread}
use Rattle.pgs_schema.specs.declared.fault.SchemaUnread.TheVariants.{Memory, Schema}
use Rattle.pgs_snapshot.specs.declared.choose_fault.ChooseFault.{ChooseFault}
use Rattle.pgs_snapshot.specs.declared.choose_fault.ChooseFault.TheVariants as choosing
use Rattle.pgs_store.specs.declared.fault.EvolveFault.{EvolveFault}
use Rattle.pgs_store.specs.declared.fault.EvolveFault.TheVariants as evolves
use Rattle.pgs_store.specs.declared.fault.LoadFault.{LoadFault}
use Rattle.pgs_store.specs.declared.fault.LoadFault.TheVariants as loads
use Rattle.pgs_store.specs.declared.fault.RecoverFault.{RecoverFault}
use Rattle.pgs_store.specs.declared.fault.RecoverFault.TheVariants as recovers
use Rattle.pgs_store.specs.declared.fault.SchemaRefusal.{SchemaRefusal}
use Rattle.pgs_store.specs.declared.fault.SchemaRefusal.TheVariants as refusals

abbrev pub of_load : SchemaUnread → LoadFault
of_load Memory = loads.Memory
of_load (Schema fault) = loads.Schema fault

abbrev pub of_recover : SchemaUnread → RecoverFault
of_recover Memory = recovers.Memory
of_recover (Schema fault) = recovers.Schema fault

abbrev pub of_schema : SchemaUnread → SchemaRefusal
of_schema Memory = refusals.Memory
of_schema (Schema fault) = refusals.Schema fault

abbrev pub of_evolve : SchemaUnread → EvolveFault
of_evolve Memory = evolves.Memory
of_evolve (Schema fault) = evolves.Schema fault

abbrev pub of_choice : ChooseFault → RecoverFault
of_choice choosing.Memory = recovers.Memory
of_choice choosing.DiskFault = recovers.DiskFault
of_choice choosing.NoStore = recovers.NoStore
of_choice choosing.Foreign = recovers.Foreign
of_choice (choosing.BadRecord number) = recovers.BadRecord number
