-- A store that stands on a world where no call failed does so after each call.
use Rattle.std.proofs.Common.{◌≡◌, ℕ, true, false, List, Result, Ok, Err, refl, sym, ◌∙◌, ap, subst}
use Rattle.pgs_graph.specs.declared.operation.Txn.{Txn}
use Rattle.pgs_store.specs.declared.fault.ApplyFault.{ApplyFault}
use Rattle.pgs_store.specs.declared.fault.ApplyFault.TheVariants as apply_faults
use Rattle.pgs_store.specs.declared.fault.CheckpointFault.{CheckpointFault}
use Rattle.pgs_store.specs.declared.fault.CheckpointFault.TheVariants as checkpoint_faults
use Rattle.pgs_store.specs.declared.fault.EvolveFault.{EvolveFault}
use Rattle.pgs_store.specs.declared.fault.EvolveFault.TheVariants as evolve_faults
use Rattle.pgs_store.specs.Applies as applying
use Rattle.pgs_store.specs.Applies.{Applies}
use Rattle.pgs_store.specs.Checkpoints as checkpointing
use Rattle.pgs_store.specs.Checkpoints.{Checkpoints}
use Rattle.pgs_store.specs.Evolves as evolving
use Rattle.pgs_store.specs.Evolves.{Evolves}
use Rattle.pgs_store.specs.State.{GuardState}
use Rattle.pgs_store.specs.Stored.{StoreState, StandsOn}
use Rattle.pgs_world.specs.World.{View}

-- where no call failed, the store stands on the world
abbrev pub StandsUnfailed : StoreState → View → Type 0
StandsUnfailed store view = store.failed ≡ false → StandsOn store.guard store.journal view

unchanged : (old new : StoreState) (before now : View) → new ≡ old → now ≡ before → StandsUnfailed old before → StandsUnfailed new now
unchanged old new before now same still stands =
    subst (λ (s : StoreState). StandsUnfailed s now) (sym same) (subst (λ (v : View). StandsUnfailed old v) (sym still) stands)

-- the mark is set
marked : (new : StoreState) (now : View) → new.failed ≡ true → StandsUnfailed new now
marked new now failed = λ unfailed. absurd (cc)

pub applied : (answer : Result ℕ ApplyFault) (old new : StoreState) (txn : Txn) (before now : View) → Applies answer old new txn now
    → (applying.is_early answer ≡ true → now ≡ before) → StandsUnfailed old before → StandsUnfailed new now
applied (Ok number) old new txn before now answer early stands = λ unfailed. answer.3.stands
applied (Err apply_faults.Memory) old new txn before now answer early stands = unchanged old new before now answer.1 (early refl) stands
applied (Err (apply_faults.Rejected rejection)) old new txn before now answer early stands = unchanged old new before now answer.1 (early refl) stands
applied (Err apply_faults.DiskFault) old new txn before now answer early stands = marked new now (ap (λ (s : StoreState). s.failed) answer.1)
applied (Err apply_faults.NeedsReopen) old new txn before now answer early stands =
    marked new now (ap (λ (s : StoreState). s.failed) answer.1 ∙ answer.0)

pub renewed : (answer : Result ℕ CheckpointFault) (old new : StoreState) (before now : View) → Checkpoints answer old new now
    → (checkpointing.is_early answer ≡ true → now ≡ before) → StandsUnfailed old before → StandsUnfailed new now
renewed (Ok epoch) old new before now answer early stands =
    λ unfailed. subst (λ (g : GuardState). StandsOn g new.journal now) (sym answer.2) answer.3.stands
renewed (Err checkpoint_faults.Memory) old new before now answer early stands = unchanged old new before now answer.1 (early refl) stands
renewed (Err checkpoint_faults.EpochsSpent) old new before now answer early stands = unchanged old new before now answer.2 (early refl) stands
renewed (Err checkpoint_faults.DiskFault) old new before now answer early stands = marked new now (ap (λ (s : StoreState). s.failed) answer.1)
renewed (Err checkpoint_faults.NeedsReopen) old new before now answer early stands =
    marked new now (ap (λ (s : StoreState). s.failed) answer.1 ∙ answer.0)

pub evolved : (answer : Result (Unit {0}) EvolveFault) (old new : StoreState) (text : List ℕ) (before now : View) → Evolves answer old new text now
    → (evolving.is_early answer ≡ true → now ≡ before) → StandsUnfailed old before → StandsUnfailed new now
evolved (Ok done) old new text before now answer early stands = λ unfailed. answer.2.stands
evolved (Err evolve_faults.Memory) old new text before now answer early stands = unchanged old new before now answer.1 (early refl) stands
evolved (Err evolve_faults.OldFormat) old new text before now answer early stands = unchanged old new before now answer.2 (early refl) stands
evolved (Err (evolve_faults.Schema fault)) old new text before now answer early stands = unchanged old new before now answer.1 (early refl) stands
evolved (Err (evolve_faults.Violated violation)) old new text before now answer early stands = unchanged old new before now answer.1 (early refl) stands
evolved (Err evolve_faults.DiskFault) old new text before now answer early stands = marked new now (ap (λ (s : StoreState). s.failed) answer.1)
evolved (Err evolve_faults.NeedsReopen) old new text before now answer early stands =
    marked new now (ap (λ (s : StoreState). s.failed) answer.1 ∙ answer.0)
