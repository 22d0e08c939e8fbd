-- Where a taker of `apply` stands.
use Rattle.std.specs.Prelude.{ℕ, Bool}
use Rattle.pgs_store.specs.Stored.{StoreState}
use Rattle.pgs_run_apply.specs.declared.applying.Applying.{Applying}
use Rattle.pgs_run_apply.specs.State.{ApplyState}

-- a store, how many lines are numbered so far, and whether one was refused
abbrev pub state_with : StoreState → ℕ → Bool → ApplyState
state_with store number refused =
    record { guard = store.guard; journal = store.journal; failed = store.failed; number = number; refused = refused }

abbrev pub state_of : {F : Type 0} → Applying F → ApplyState
state_of it = state_with it.store it.number it.refused
