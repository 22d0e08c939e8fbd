-- The promise of a run, from what is known of the command's own: of one that reads its source, and of one that doesn't.
use Rattle.std.proofs.Common.{◌≡◌, inl, inr, ℕ, ◌<◌, ◌≤◌, Bool, true, false, true≢false, List, [], length, Some, refl, sym, ap, subst, ◌∙◌, arith}
use Rattle.pgs_run_lines.specs.Ending.{Faults}
use Rattle.pgs_run_lines.specs.Machine.{Told}
use Rattle.pgs_run_lines.specs.Pieces.{Shown, ShowsFirst, shown_of}
use Rattle.pgs_run_lines.proofs.RunEnds.{within_unread}
use Rattle.pgs_run_lines.proofs.Showing.{shows_none}
use Rattle.pgs_world.specs.Count.{RoseByOne}
use Rattle.pgs_world.specs.Moment.{IsSettled, IsTimed}
use Rattle.pgs_world.proofs.Moments.{quiet_none}
use Rattle.pgs_command.specs.declared.status.Status.{Status}
use Rattle.pgs_command.specs.declared.status.Status.TheVariants.{Accepted, Refused, BadWords, SchemaRefused, StoreRefused, DiskFault, ReadFault, PutFault, Memory, InputTooLong}
use Rattle.pgs_command.specs.Ending.{Ends}
use Rattle.pgs_command.specs.Promise.{IsUnbegun, Knows, telling, Promise}
use Rattle.pgs_command.specs.Run.{HasCause, IsRead, EndsAs, IsComplete, TakesWithin}
use Rattle.pgs_command.specs.Setting.{SourceState, Setting, faults_in}
use Rattle.pgs_command.specs.Spec.{CommandSpec}

-- what is known of a run whose command reads its source
pub record RunsReading (spec : CommandSpec) (budget : ℕ) (old new : Setting) (status : Status) : Type 0 where
  pub choice : spec.Choice
  pub right : spec.IsRight choice old budget status
  pub ends : (input : List ℕ) → Knows spec old input → old.source.left ≡ Some input
      → EndsAs (telling spec choice old new input) (shown_of old.view) input budget new.source.left status (shown_of new.view)
  pub takes : (input rest : List ℕ) → old.source.left ≡ Some input → new.source.left ≡ Some rest → TakesWithin input budget rest status
  pub full : status ≡ InputTooLong → (input : List ℕ) → old.source.left ≡ Some input → budget ≤ length input
  pub in_vain : spec.ReadsInVain old status → new.source ≡ old.source
  pub read_to_end : IsRead new.source.left status
  pub may_end : spec.MayEnd status
  pub cause : HasCause spec.reads_source spec.uses_areas (faults_in old) (faults_in new) status
  pub leaves : spec.Leaves old new status
  pub settles : IsSettled old.view → (status ≡ DiskFault → ⊥) → IsSettled new.view
  pub feeds : spec.Feeds old new status

-- what is known of one whose command doesn't
pub record RunsAlone (spec : CommandSpec) (budget : ℕ) (old new : Setting) (status : Status) : Type 0 where
  pub choice : spec.Choice
  pub right : spec.IsRight choice old budget status
  pub shown : (input : List ℕ) → Knows spec old input → Ends (shown_of old.view) (telling spec choice old new input budget) status (shown_of new.view)
  pub unread : new.source ≡ old.source
  pub may_end : spec.MayEnd status
  pub cause : HasCause spec.reads_source spec.uses_areas (faults_in old) (faults_in new) status
  pub leaves : spec.Leaves old new status
  pub settles : IsSettled old.view → (status ≡ DiskFault → ⊥) → IsSettled new.view
  pub feeds : spec.Feeds old new status

-- ---- an undisturbed run

complete_at : (MayEnd : Status → Type 0) (reads uses_areas : Bool) (before now : Faults) (start shown : Shown) (told : Told Status) (status : Status)
    → MayEnd status → HasCause reads uses_areas before now status → (reads ≡ true → status ≡ InputTooLong → ⊥) → Ends start told status shown
    → (MayEnd BadWords → ⊥) → (MayEnd SchemaRefused → told.status ≡ SchemaRefused → ⊥) → (uses_areas ≡ true → told.status ≡ StoreRefused → ⊥)
    → (reads ≡ true → RoseByOne before.reads now.reads → ⊥) → (uses_areas ≡ true → RoseByOne before.areas now.areas → ⊥) → (RoseByOne before.puts now.puts → ⊥)
    → IsComplete start told status shown
complete_at MayEnd reads uses_areas before now start shown told Accepted may cause whole ends named schema store r a p = inr (inl refl, ends.0)
complete_at MayEnd reads uses_areas before now start shown told Refused may cause whole ends named schema store r a p = inr (inr refl, ends.0)
complete_at MayEnd reads uses_areas before now start shown told BadWords may cause whole ends named schema store r a p = absurd (named may)
complete_at MayEnd reads uses_areas before now start shown told SchemaRefused may cause whole ends named schema store r a p = absurd (schema may ends.1)
complete_at MayEnd reads uses_areas before now start shown told StoreRefused may cause whole ends named schema store r a p = absurd (store cause.0 ends.1)
complete_at MayEnd reads uses_areas before now start shown told DiskFault may cause whole ends named schema store r a p = absurd (a cause.0 cause.1.0)
complete_at MayEnd reads uses_areas before now start shown told ReadFault may cause whole ends named schema store r a p = absurd (r cause.0 cause.1.0)
complete_at MayEnd reads uses_areas before now start shown told PutFault may cause whole ends named schema store r a p = absurd (p cause.0)
complete_at MayEnd reads uses_areas before now start shown told Memory may cause whole ends named schema store r a p = inl refl
complete_at MayEnd reads uses_areas before now start shown told InputTooLong may cause whole ends named schema store r a p = absurd (whole cause.0 refl)

below_full : (budget length : ℕ) → length < budget → budget ≤ length → ⊥
below_full budget length below full = grind arith

-- one that doesn't read its source never fails to, nor is its input too long
pub no_cause : (reads uses_areas : Bool) (before now : Faults) (status : Status) → reads ≡ false → HasCause reads uses_areas before now status → (status ≡ ReadFault → ⊥) × (status ≡ InputTooLong → ⊥)
no_cause reads uses_areas before now status none cause = (
  (λ is. let c : HasCause reads uses_areas before now ReadFault = subst (HasCause reads uses_areas before now) is cause in absurd (true≢false (sym c.0 ∙ none))),
  (λ is. let c : HasCause reads uses_areas before now InputTooLong = subst (HasCause reads uses_areas before now) is cause in absurd (true≢false (sym c.0 ∙ none))),
)

-- ---- the promise

pub promise_reading : (spec : CommandSpec) (budget : ℕ) (old new : Setting) (status : Status) → spec.reads_source ≡ true → RunsReading spec budget old new status → Promise spec budget old new status
promise_reading spec budget old new status reads ran = record {
  choice = ran.choice;
  right = ran.right;
  shown = λ input knows. (ran.ends input knows (knows.source reads)).shown;
  read_fault = λ input rest knows is left fault. (ran.ends input knows is).read_fault rest left fault;
  takes = ran.takes;
  unread = λ none. absurd (true≢false (sym reads ∙ none));
  in_vain = ran.in_vain;
  read_to_end = λ reads. ran.read_to_end;
  ends = ran.may_end;
  cause = ran.cause;
  complete = λ input knows named short unrefused calm.
      complete_at spec.MayEnd spec.reads_source spec.uses_areas (faults_in old) (faults_in new) (shown_of old.view) (shown_of new.view) (telling spec ran.choice old new input budget) status
      ran.may_end ran.cause (λ r cut. below_full budget (length input) (short r) (ran.full cut input (knows.source r))) (ran.ends input knows (knows.source reads)).shown
      named unrefused.schema unrefused.store calm.reads calm.areas calm.puts;
  leaves = ran.leaves;
  settles = ran.settles;
  feeds = ran.feeds;
}

pub promise_alone : (spec : CommandSpec) (budget : ℕ) (old new : Setting) (status : Status) → spec.reads_source ≡ false → RunsAlone spec budget old new status → Promise spec budget old new status
promise_alone spec budget old new status none ran =
    let calls = no_cause spec.reads_source spec.uses_areas (faults_in old) (faults_in new) status none ran.cause in
    record {
      choice = ran.choice;
      right = ran.right;
      shown = ran.shown;
      read_fault = λ input rest knows is left fault. absurd (calls.0 fault);
      takes = λ input rest is left. record {
        within = within_unread input rest budget old.source.left is (sym (ap (λ (s : SourceState). s.left) ran.unread) ∙ left);
        too_long = λ cut. absurd (calls.1 cut);
      };
      unread = λ reads. ran.unread;
      in_vain = λ reads. ran.unread;
      read_to_end = λ reads. absurd (true≢false (sym reads ∙ none));
      ends = ran.may_end;
      cause = ran.cause;
      complete = λ input knows named short unrefused calm.
          complete_at spec.MayEnd spec.reads_source spec.uses_areas (faults_in old) (faults_in new) (shown_of old.view) (shown_of new.view) (telling spec ran.choice old new input budget) status
          ran.may_end ran.cause (λ r cut. absurd (calls.1 cut)) (ran.shown input knows) named unrefused.schema unrefused.store calm.reads calm.areas calm.puts;
      leaves = ran.leaves;
      settles = ran.settles;
      feeds = ran.feeds;
    }

-- with nothing done, for want of memory: of a command that leaves no more than that behind
none_first : (start : Shown) (pieces : List (List ℕ)) → ShowsFirst start pieces start
none_first start pieces = record { first = []; later = pieces; parts = refl; shows = shows_none start }

pub promise_unbegun : (spec : CommandSpec) (budget : ℕ) (at : Setting) (choice : spec.Choice) → spec.IsRight choice at budget Memory → spec.MayEnd Memory
    → spec.Leaves at at Memory → spec.Feeds at at Memory → Promise spec budget at at Memory
promise_unbegun spec budget at choice right may_end leaves feeds = record {
  choice = choice;
  right = right;
  shown = λ input knows. none_first (shown_of at.view) (telling spec choice at at input budget).pieces;
  read_fault = λ input rest knows is left fault. cc;
  takes = λ input rest is left. record { within = within_unread input rest budget at.source.left is left; too_long = λ cut. cc };
  unread = λ none. refl;
  in_vain = λ vain. refl;
  read_to_end = λ reads. tt;
  ends = may_end;
  cause = refl;
  complete = λ input knows named short unrefused calm. inl refl;
  leaves = leaves;
  settles = λ settled none. settled;
  feeds = feeds;
}

-- the same of any command, as a run of words that weren't read
pub unbegun : (at : Setting) → IsTimed at.view → IsUnbegun at at Memory
unbegun at timed = record { memory = refl; source = refl; places = refl; faults = refl; shown = refl; timed = timed; quiet = quiet_none at.view timed }
