-- The calls of a command that reads nothing.
use Rattle.std.proofs.Common.{◌≡◌, ℕ, Bool, false, true≢false, Option, refl, sym, subst, ◌∙◌}
use Rattle.pgs_run_lines.specs.Calls.{MakesReads, gave_none, so_far}
use Rattle.pgs_run_lines.specs.Ending.{Faults}
use Rattle.pgs_command.specs.declared.status.Status.{Status}
use Rattle.pgs_command.specs.declared.status.Status.TheVariants.{Accepted, Refused, BadWords, SchemaRefused, StoreRefused, DiskFault, ReadFault, PutFault, Memory, InputTooLong}
use Rattle.pgs_command.specs.Calls.{fails_read}
use Rattle.pgs_command.specs.Run.{HasCause}

-- it doesn't say that a read failed
pub unread_status : (reads uses_areas : Bool) (before now : Faults) (status : Status) → reads ≡ false → HasCause reads uses_areas before now status → fails_read status ≡ false
unread_status reads uses_areas before now Accepted none cause = refl
unread_status reads uses_areas before now Refused none cause = refl
unread_status reads uses_areas before now BadWords none cause = refl
unread_status reads uses_areas before now SchemaRefused none cause = refl
unread_status reads uses_areas before now StoreRefused none cause = refl
unread_status reads uses_areas before now DiskFault none cause = refl
unread_status reads uses_areas before now ReadFault none cause = absurd (true≢false (sym cause.0 ∙ none))
unread_status reads uses_areas before now PutFault none cause = refl
unread_status reads uses_areas before now Memory none cause = refl
unread_status reads uses_areas before now InputTooLong none cause = refl

-- the source is as before where nothing is read of it
pub reads_nothing : {S : Type 0} (made : S → ℕ → Option ℕ → S → Type 0) (budget : ℕ) (source : S) (fails : Bool) → fails ≡ false → MakesReads made budget source fails source
reads_nothing made budget source fails is = subst (λ (fails : Bool). MakesReads made budget source fails source) (sym is) (so_far gave_none)
