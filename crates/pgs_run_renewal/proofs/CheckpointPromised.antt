-- The promise of a run, by how it ended.
use Rattle.std.proofs.Common.{◌≡◌, inl, inr, ℕ, ◌+◌, true, false, IsTrue, List, [], ◌∷◌, Err, refl, sym, ◌∙◌, ap, subst}
use Rattle.pgs_answer.specs.Lines.{checkpoint_line, store_refused_line}
use Rattle.pgs_answer.specs.Refusals.{epochs_spent_text}
use Rattle.pgs_journal.specs.declared.journal.Journal.{Journal}
use Rattle.pgs_journal.specs.Format.{is_epoch}
use Rattle.pgs_run_lines.specs.Ending.{AreasRose, Faults, faults_of}
use Rattle.pgs_run_lines.specs.Machine.{Told}
use Rattle.pgs_run_lines.specs.Pieces.{Shown, ShowsFirst, shown_of}
use Rattle.pgs_run_lines.specs.Replies.{PutsReply}
use Rattle.pgs_command.specs.declared.status.Status.{Status}
use Rattle.pgs_command.specs.declared.status.Status.TheVariants.{Accepted, StoreRefused, DiskFault, PutFault, Memory}
use Rattle.pgs_command.specs.Answers.{IsOfCommand}
use Rattle.pgs_command.specs.Areas.{areas_of}
use Rattle.pgs_command.specs.Ending.{Ends}
use Rattle.pgs_command.specs.Promise.{PromiseAlone}
use Rattle.pgs_command.specs.Images.{KeepsImages}
use Rattle.pgs_command.specs.Run.{HasCause}
use Rattle.pgs_command.proofs.Images.{images_areas, images_on, images_quiet, settled_images}
use Rattle.pgs_command.proofs.Promising.{promise_alone}
use Rattle.pgs_command.proofs.Replied.{IsOwn, reply_cause, reply_ends}
use Rattle.pgs_run_store.specs.declared.opening.Unopened.{Unopened}
use Rattle.pgs_run_store.specs.declared.opening.Unopened.TheVariants as unopened
use Rattle.pgs_run_store.specs.Ending.{EndsUnopened, is_refusal}
use Rattle.pgs_run_store.specs.Opening.{IsRefusal, Opens}
use Rattle.pgs_run_store.specs.Refusing.{SavedStore, told_of_areas}
use Rattle.pgs_run_store.proofs.Reading.{RunsOpened}
use Rattle.pgs_run_store.proofs.Saving.{never_refused}
use Rattle.pgs_run_store.proofs.Shown.{same_faults, same_shown, shows_no_piece, shown_quiet}
use Rattle.pgs_run_store.proofs.Unread.{RunsUnopened, unopened_answer, unopened_by, unopened_cause, unopened_images, unopened_shown}
use Rattle.pgs_snapshot.specs.Choice.{chosen_epoch}
use Rattle.pgs_store.specs.Checkpoints as checkpoints
use Rattle.pgs_store.specs.Stored.{StoreState, IsRenewedIn}
use Rattle.pgs_store.specs.World.{StaysBeside}
use Rattle.pgs_world.specs.Count.{RoseByOne}
use Rattle.pgs_world.specs.Moment.{EachSince, IsSettled}
use Rattle.pgs_world.specs.World.{View, other}
use Rattle.pgs_world.proofs.Moments.{each_on, quiet_now, settled_quiet}
use Rattle.pgs_run_store.specs.Spec.{IsUnput}
use Rattle.pgs_run_renewal.specs.CheckpointLeaving.{IsStore, LeavesRenewed, StopsRenewing, saved_there}
use Rattle.pgs_run_renewal.specs.CheckpointSpec.{checkpoint_spec}
use Rattle.pgs_run_renewal.specs.CheckpointTold.{told_by, told_checkpoint}
use Rattle.pgs_run_renewal.proofs.CheckpointKept.{PutsRefusal, leaves_kept, puts_memory, shows_same, stops_kept, stops_quiet}
use Rattle.pgs_run_renewal.proofs.Renewing.{leaves_failed, leaves_renewed, reply_by, settled_late, told_next, told_spent}

-- what is known of a run
record RunsCheckpoint (old new : View) (status : Status) : Type 0 where
  shown : IsTrue old.tells_bytes → Ends (shown_of old) (told_checkpoint (areas_of old)) status (shown_of new)
  answer : IsOfCommand status
  cause : (reads : ℕ) → HasCause false true (faults_of reads old) (faults_of reads new) status
  leaves : LeavesRenewed old new status
  settles : IsSettled old → (status ≡ DiskFault → ⊥) → IsSettled new

promised : (old new : View) (status : Status) → RunsCheckpoint old new status → PromiseAlone checkpoint_spec old new status
promised old new status ran budget source places =
    promise_alone checkpoint_spec budget (record { source = source; view = old; places = places }) (record { source = source; view = new; places = places }) status refl (record {
      choice = tt;
      right = tt;
      shown = λ input knows. ran.shown (knows.bytes tt);
      unread = refl;
      may_end = ran.answer;
      cause = ran.cause source.faults;
      leaves = ran.leaves;
      settles = ran.settles;
      feeds = refl;
    })

-- ---- no store was opened

-- no store that is saved is refused
not_refused : (reason : Unopened) (old mid : View) → Opens (Err reason) old mid → IsTrue old.tells_bytes → IsStore (saved_there old.shown) → is_refusal reason ≡ false
not_refused (unopened.Refused reply) old mid opens tells store = absurd (never_refused old store.0 store.1 store.2 reply.line reply.status tells store.3 opens.1)
not_refused unopened.DiskFault old mid opens tells store = refl
not_refused unopened.Memory old mid opens tells store = refl

-- with 7 the line of its refusal was being put
unopened_torn : (reason : Unopened) (old mid new : View) (result : Status) (go : SavedStore → Told Status) → Opens (Err reason) old mid → EndsUnopened reason mid result new → IsTrue old.tells_bytes → result ≡ PutFault
    → (told_of_areas (areas_of old) go).status ≡ Accepted → ⊥
unopened_torn (unopened.Refused reply) old mid new result go opens ends tells is accepted =
    subst IsRefusal (sym (ap (λ (t : Told Status). t.status) (opens.1 tells go)) ∙ accepted) opens.0
unopened_torn unopened.DiskFault old mid new result go opens ends tells is accepted = let no : DiskFault ≡ PutFault = sym ends.0 ∙ is in cc
unopened_torn unopened.Memory old mid new result go opens ends tells is accepted = let no : Memory ≡ PutFault = sym ends.0 ∙ is in cc

-- and with 8 nothing was put
unopened_unput : (reason : Unopened) (old mid new : View) (result : Status) → Opens (Err reason) old mid → EndsUnopened reason mid result new → result ≡ Memory → shown_of new ≡ shown_of mid
unopened_unput (unopened.Refused reply) old mid new result opens (inl whole) is = absurd (subst IsRefusal (sym whole.0 ∙ is) opens.0)
unopened_unput (unopened.Refused reply) old mid new result opens (inr torn) is = absurd (let no : PutFault ≡ Memory = sym torn.0 ∙ is in cc)
unopened_unput unopened.DiskFault old mid new result opens ends is = ends.1.shown
unopened_unput unopened.Memory old mid new result opens ends is = ends.1.shown

unopened_puts : (reason : Unopened) (old mid new : View) (result : Status) → RunsUnopened reason old mid new result → PutsRefusal old new result
unfolding told_checkpoint
unopened_puts reason old mid new result ran = record {
  never = unopened_by reason old mid new result ran (λ s. s ≡ Accepted → ⊥) (λ is. cc) (λ is. cc) (λ is. cc) (λ is. cc) (λ is. cc);
  torn = unopened_torn reason old mid new result (told_by (chosen_epoch old.shown.a old.shown.b)) ran.opens ran.ends;
  unput = λ is.
      let memory = unopened_by reason old mid new result ran (λ s. IsUnput s → s ≡ Memory) (λ no. absurd no) (λ no. absurd no) (λ no. absurd no) (λ yes. refl) (λ no. absurd no) is in
      shows_same (shown_of old) (shown_of new) (unopened_unput reason old mid new result ran.opens ran.ends memory ∙ shown_quiet old mid ran.quiet ran.no_put);
}

pub promised_unopened : (reason : Unopened) (old mid new : View) (result : Status) → RunsUnopened reason old mid new result → (is_refusal reason ≡ false → new ≡ mid) → PromiseAlone checkpoint_spec old new result
unfolding told_checkpoint
promised_unopened reason old mid new result ran early =
    let images : KeepsImages old new = unopened_images reason old mid new result ran in
    promised old new result (record {
      shown = unopened_shown reason old mid new result ran (told_by (chosen_epoch old.shown.a old.shown.b));
      answer = unopened_answer reason old mid new result ran;
      cause = unopened_cause reason old mid new result ran false;
      leaves = leaves_kept old new result images (unopened_puts reason old mid new result ran)
          (λ settled store. subst (λ (view : View). EachSince (StopsRenewing old) old view) (sym (early (not_refused reason old mid ran.opens settled.tells_bytes store))) (stops_quiet old mid ran.quiet settled));
      settles = λ settled no. settled_images old new settled images;
    })

-- ---- one was

-- a line was put behind calls that put nothing
record PutsTold (line : List ℕ) (status result : Status) (old mid new : View) : Type 0 where
  shown : shown_of mid ≡ shown_of old
  faults : (reads : ℕ) → faults_of reads mid ≡ faults_of reads old
  own : IsOwn true status
  answer : IsOfCommand status
  told : IsTrue old.tells_bytes → told_checkpoint (areas_of old) ≡ record { pieces = line ∷ []; status = status }
  put : PutsReply line status PutFault mid result new

promised_line : (line : List ℕ) (status result : Status) (old mid new : View) → PutsTold line status result old mid new → LeavesRenewed old new result → (IsSettled old → IsSettled new) → PromiseAlone checkpoint_spec old new result
promised_line line status result old mid new ran leaves settles =
    let told = told_checkpoint (areas_of old) in
    promised old new result (record {
      shown = λ tells.
          subst (λ (s : Shown). Ends s told result (shown_of new)) ran.shown
          (reply_ends true told line status result mid new ran.own (ap (λ (t : Told Status). t.pieces) (ran.told tells)) (ap (λ (t : Told Status). t.status) (ran.told tells)) ran.put.ends);
      answer = reply_by IsOfCommand line status result mid new ran.answer tt ran.put;
      cause = λ reads. subst (λ (f : Faults). HasCause false true f (faults_of reads new) result) (ran.faults reads) (reply_cause false true reads line status result mid new ran.own ran.put.ends);
      leaves = leaves;
      settles = λ settled no. settles settled;
    })

module _ (it : StoreState) (old mid : View) (ran : RunsOpened it old mid) where
  mid_shown : shown_of mid ≡ shown_of old
  mid_shown = shown_quiet old mid ran.quiet ran.no_put

  mid_faults : (reads : ℕ) → faults_of reads mid ≡ faults_of reads old
  mid_faults reads = same_faults reads old mid ran.areas ran.no_put.put_faults

  none_shown : (view : View) → shown_of view ≡ shown_of old → ShowsFirst (shown_of old) (told_checkpoint (areas_of old)).pieces (shown_of view)
  none_shown view same = subst (λ (s : Shown). ShowsFirst (shown_of old) (told_checkpoint (areas_of old)).pieces s) (sym same) (shows_no_piece (shown_of old) (told_checkpoint (areas_of old)).pieces)

  -- there was no memory
  pub promised_memory : PromiseAlone checkpoint_spec old mid Memory
  promised_memory = promised old mid Memory (record {
    shown = λ tells. none_shown mid mid_shown;
    answer = tt;
    cause = mid_faults;
    leaves = leaves_kept old mid Memory (images_quiet old mid ran.quiet) (puts_memory old mid mid_shown) (λ settled store. stops_quiet old mid ran.quiet settled);
    settles = λ settled no. settled_quiet old mid settled ran.quiet;
  })

  -- no epoch is left
  module _ (last : it.journal.epoch ≡ 16777215) (new : View) (result : Status) (put : PutsReply (store_refused_line epochs_spent_text) StoreRefused PutFault mid result new) where
    abbrev line : List ℕ
    line = store_refused_line epochs_spent_text

    spending : IsSettled old → EachSince (StopsRenewing old) mid new
    spending settled c left =
        let from = put.stops (ran.quiet.passes.honest ∙ settled.honest) c left in
        let before = quiet_now old mid ran.quiet settled.honest from.0 from.1 in
        let told = told_spent it old mid ran settled.tells_bytes last in
        stops_kept old c (from.2.a ∙ settled.a from.0 before) (from.2.b ∙ settled.b from.0 before)
        (record {
          line = line;
          one = ap (λ (t : Told Status). t.pieces) told;
          left = from.0;
          before = before;
          front = from.2.front;
          back = from.2.back;
          parts = from.2.parts;
          output = from.2.added;
        }) (λ none accepted. let no : StoreRefused ≡ Accepted = sym (ap (λ (t : Told Status). t.status) told) ∙ accepted in cc)

    spent_puts : PutsRefusal old new result
    spent_puts = record {
      never = reply_by (λ s. s ≡ Accepted → ⊥) line StoreRefused result mid new (λ is. cc) (λ is. cc) put;
      torn = λ tells is accepted. let no : StoreRefused ≡ Accepted = sym (ap (λ (t : Told Status). t.status) (told_spent it old mid ran tells last)) ∙ accepted in cc;
      unput = λ is. absurd (reply_by (λ s. IsUnput s → ⊥) line StoreRefused result mid new (λ no. no) (λ no. no) put is);
    }

    pub promised_spent : PromiseAlone checkpoint_spec old new result
    promised_spent =
        let images : KeepsImages old new = images_on old mid new (images_quiet old mid ran.quiet) (images_areas mid new put.areas) in
        promised_line line StoreRefused result old mid new
        (record { shown = mid_shown; faults = mid_faults; own = refl; answer = tt; told = λ tells. told_spent it old mid ran tells last; put = put })
        (leaves_kept old new result images spent_puts
        (λ settled store. each_on old mid new (StopsRenewing old) ran.quiet.passes put.areas.passes (stops_quiet old mid ran.quiet settled) (spending settled)))
        (λ settled. settled_images old new settled images)

  module _ (late : View) (beside : StaysBeside (other it.journal.area) mid late) (stops : IsTrue mid.honest → IsTrue mid.tells_bytes → EachSince (IsRenewedIn it.guard it.journal) mid late) where
    late_shown : shown_of late ≡ shown_of old
    late_shown = same_shown mid late beside.passes.tells_output beside.shown.output beside.no_put.puts ∙ mid_shown

    -- an area failed
    pub promised_failed : RoseByOne mid.area_faults late.area_faults → PromiseAlone checkpoint_spec old late DiskFault
    promised_failed rose = promised old late DiskFault (record {
      shown = λ tells. none_shown late late_shown;
      answer = tt;
      cause = λ reads. (refl, subst (λ (f : Faults). AreasRose f (faults_of reads late)) (mid_faults reads) (rose, refl, beside.no_put.put_faults));
      leaves = leaves_failed it old mid ran late beside stops;
      settles = λ settled no. absurd (no refl);
    })

    -- the store was renewed, and then its line was put
    pub promised_renewed : late.area_faults ≡ mid.area_faults → (after : Journal) (epoch : ℕ) → checkpoints.IsRenewed it.guard it.journal after epoch late → IsTrue (is_epoch after.epoch)
        → (new : View) (result : Status) → PutsReply (checkpoint_line (it.journal.epoch + 1) it.guard.commits) Accepted PutFault late result new → PromiseAlone checkpoint_spec old new result
    promised_renewed areas after epoch done numbered new result put =
        promised_line (checkpoint_line (it.journal.epoch + 1) it.guard.commits) Accepted result old late new
        (record {
          shown = late_shown;
          faults = λ reads. same_faults reads mid late areas beside.no_put.put_faults ∙ mid_faults reads;
          own = tt;
          answer = tt;
          told = told_next it old mid ran late beside stops after epoch done numbered;
          put = put;
        })
        (leaves_renewed it old mid ran late beside stops after epoch done numbered new result put)
        (λ settled. settled_images late new (settled_late it old mid ran late beside stops after epoch done numbered settled) (images_areas late new put.areas))
