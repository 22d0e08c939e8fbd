-- The promise of a run of a command that is given by another name, and the calls of one that reads nothing.
use Rattle.std.proofs.Common.{◌≡◌, ℕ, false, [], Option, None, subst, sym}
use Rattle.pgs_command.specs.declared.status.Status.{Status}
use Rattle.pgs_command.specs.Calls.{fails_read}
use Rattle.pgs_command.specs.Feeding.{Gives}
use Rattle.pgs_command.specs.Promise.{Promise, PromiseAlone}
use Rattle.pgs_command.specs.Setting.{Setting, setting_of, faults_in}
use Rattle.pgs_command.specs.Spec.{CommandSpec}
use Rattle.pgs_command.proofs.Unread.{unread_status, reads_nothing}
use Rattle.pgs_feed.specs.Deliveries.{ListKind}
use Rattle.pgs_run_lines.specs.Calls.{MakesReads}
use Rattle.pgs_world.specs.World.{View}

pub promise_as : (spec other : CommandSpec) (budget : ℕ) (old new : Setting) (status : Status) → spec ≡ other → Promise other budget old new status → Promise spec budget old new status
promise_as spec other budget old new status is = subst (λ (s : CommandSpec). Promise s budget old new status) (sym is)

pub gives_as : (kind : ListKind) (spec other : CommandSpec) (old new : Setting) (before after : kind.Feeds) (status : Status) → spec ≡ other → Gives other kind old new before after status → Gives spec kind old new before after status
gives_as kind spec other old new before after status is = subst (λ (s : CommandSpec). Gives s kind old new before after status) (sym is)

-- the source is as before
pub calls_of : {S : Type 0} (made : S → ℕ → Option ℕ → S → Type 0) (source : S) (spec : CommandSpec) (budget : ℕ) (old new : View) (status : Status) → spec.reads_source ≡ false → PromiseAlone spec old new status
    → MakesReads made budget source (fails_read status) source
calls_of made source spec budget old new status none promise =
    let at : View → Setting = λ view. setting_of None 0 view [] in
    reads_nothing made budget source (fails_read status)
    (unread_status spec.reads_source spec.uses_areas (faults_in (at old)) (faults_in (at new)) status none (promise budget (at old).source []).cause)
