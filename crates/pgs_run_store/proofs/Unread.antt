-- What is said of a command whose store isn't opened. It leaves its source alone.
use Rattle.std.proofs.Common.{◌≡◌, inl, inr, ℕ, Bool, true, false, true≢false, List, Option, Some, Err, IsTrue, refl, sym, ap, subst, ◌∙◌}
use Rattle.pgs_run_lines.specs.AreasKept.{KeepsAreas}
use Rattle.pgs_run_lines.specs.Ending.{AreasRose, Faults, faults_of}
use Rattle.pgs_run_lines.specs.Machine.{Told}
use Rattle.pgs_run_lines.specs.Pieces.{Shown, ShowsFirst, shown_of}
use Rattle.pgs_run_lines.proofs.Causes.{world_same}
use Rattle.pgs_run_lines.proofs.RunEnds.{within_unread}
use Rattle.pgs_store.specs.World.{CountsFault}
use Rattle.pgs_world.specs.Moment.{IsQuiet, MakesNoPut}
use Rattle.pgs_world.specs.World.{View}
use Rattle.pgs_command.specs.declared.status.Status.{Status}
use Rattle.pgs_command.specs.declared.status.Status.TheVariants.{Accepted, Refused, BadWords, SchemaRefused, StoreRefused, DiskFault, ReadFault, PutFault, Memory, InputTooLong}
use Rattle.pgs_command.specs.Answers.{IsOfCommand}
use Rattle.pgs_command.specs.Areas.{areas_of}
use Rattle.pgs_command.specs.Calls.{fails_read, fails_world}
use Rattle.pgs_command.specs.Ending.{Ends}
use Rattle.pgs_command.specs.Images.{KeepsImages}
use Rattle.pgs_command.specs.Run.{IsRead, EndsAs, HasCause, TakesWithin}
use Rattle.pgs_command.proofs.Images.{images_areas, images_on, images_quiet}
use Rattle.pgs_command.proofs.Replied.{IsOwn, reply_cause, reply_ends}
use Rattle.pgs_run_store.specs.declared.opening.Unopened.{Unopened}
use Rattle.pgs_run_store.specs.declared.opening.Unopened.TheVariants as unopened
use Rattle.pgs_run_store.specs.Ending.{EndsLast, EndsUnopened, is_refusal}
use Rattle.pgs_run_store.specs.Opening.{IsRefusal, Opens, is_failure}
use Rattle.pgs_run_store.specs.Refusing.{SavedStore, told_of_areas}
use Rattle.pgs_run_store.proofs.Shown.{same_faults, shown_quiet, shows_no_piece}

-- ---- its status

-- what holds of both statuses of a refusal
by_refusal : (P : Status → Type 0) → P SchemaRefused → P StoreRefused → (status : Status) → IsRefusal status → P status
by_refusal P schema store SchemaRefused is = schema
by_refusal P schema store StoreRefused is = store
by_refusal P schema store Accepted is = absurd is
by_refusal P schema store Refused is = absurd is
by_refusal P schema store BadWords is = absurd is
by_refusal P schema store DiskFault is = absurd is
by_refusal P schema store ReadFault is = absurd is
by_refusal P schema store PutFault is = absurd is
by_refusal P schema store Memory is = absurd is
by_refusal P schema store InputTooLong is = absurd is

-- what holds of each status that it may end with
by_unopened : (P : Status → Type 0) → P SchemaRefused → P StoreRefused → P DiskFault → P Memory → P PutFault → (reason : Unopened) (old mid new : View) (result : Status)
    → Opens (Err reason) old mid → EndsUnopened reason mid result new → P result
by_unopened P schema store area memory put (unopened.Refused reply) old mid new result opens (inl whole) = subst P (sym whole.0) (by_refusal P schema store reply.status opens.0)
by_unopened P schema store area memory put (unopened.Refused reply) old mid new result opens (inr torn) = subst P (sym torn.0) put
by_unopened P schema store area memory put unopened.DiskFault old mid new result opens ends = subst P (sym ends.0) area
by_unopened P schema store area memory put unopened.Memory old mid new result opens ends = subst P (sym ends.0) memory

-- where a call on the world failed it was the last one: that which opened the store, or the put of the refusal's line
pub last_unopened : {W : Type 0} (failed : W → Type 0) (mid now : W) (first old new : View) (reason : Unopened) (result : Status)
    → Opens (Err reason) first old → EndsUnopened reason old result new → EndsLast reason result (failed now)
    → (is_failure reason ≡ true → failed mid) → (is_refusal reason ≡ false → now ≡ mid) → fails_world result ≡ true → failed now
last_unopened failed mid now first old new (unopened.Refused reply) result opens ends (inl is) struck same fails =
    absurd (true≢false (sym fails ∙ ap fails_world is ∙ by_refusal (λ status. fails_world status ≡ false) refl refl reply.status opens.0))
last_unopened failed mid now first old new (unopened.Refused reply) result opens ends (inr last) struck same fails = last
last_unopened failed mid now first old new unopened.DiskFault result opens ends last struck same fails = subst failed (sym (same refl)) (struck refl)
last_unopened failed mid now first old new unopened.Memory result opens ends last struck same fails = absurd (true≢false (sym fails ∙ ap fails_world ends.0))

-- ---- what is shown, and the cause

own_refusal : (status : Status) → IsRefusal status → IsOwn true status
own_refusal status refusal = by_refusal (IsOwn true) tt refl status refusal

shown_mid : (reason : Unopened) (old mid new : View) (result : Status) (go : SavedStore → Told Status) → Opens (Err reason) old mid → IsTrue old.tells_bytes
    → EndsUnopened reason mid result new → Ends (shown_of mid) (told_of_areas (areas_of old) go) result (shown_of new)
shown_mid (unopened.Refused reply) old mid new result go opens tells ends =
    let is = opens.1 tells go in
    reply_ends true (told_of_areas (areas_of old) go) reply.line reply.status result mid new (own_refusal reply.status opens.0)
    (ap (λ (t : Told Status). t.pieces) is) (ap (λ (t : Told Status). t.status) is) ends
shown_mid unopened.DiskFault old mid new result go opens tells ends =
    let told = told_of_areas (areas_of old) go in
    subst (λ (s : Status). Ends (shown_of mid) told s (shown_of new)) (sym ends.0)
    (subst (λ (s : Shown). ShowsFirst (shown_of mid) told.pieces s) (sym ends.1.shown) (shows_no_piece (shown_of mid) told.pieces))
shown_mid unopened.Memory old mid new result go opens tells ends =
    let told = told_of_areas (areas_of old) go in
    subst (λ (s : Status). Ends (shown_of mid) told s (shown_of new)) (sym ends.0)
    (subst (λ (s : Shown). ShowsFirst (shown_of mid) told.pieces s) (sym ends.1.shown) (shows_no_piece (shown_of mid) told.pieces))

cause_mid : (reason : Unopened) (old mid new : View) (result : Status) (reads_source : Bool) (reads : ℕ) → Opens (Err reason) old mid → CountsFault (is_failure reason) old mid → mid.put_faults ≡ old.put_faults
    → EndsUnopened reason mid result new → HasCause reads_source true (faults_of reads old) (faults_of reads new) result
cause_mid (unopened.Refused reply) old mid new result reads_source reads opens counts puts ends =
    subst (λ (f : Faults). HasCause reads_source true f (faults_of reads new) result) (same_faults reads old mid counts puts)
    (reply_cause reads_source true reads reply.line reply.status result mid new (own_refusal reply.status opens.0) ends)
cause_mid unopened.DiskFault old mid new result reads_source reads opens counts puts ends =
    subst (HasCause reads_source true (faults_of reads old) (faults_of reads new)) (sym ends.0)
    (refl, subst (AreasRose (faults_of reads old)) (sym (world_same reads reads mid new refl ends.1.faults)) (counts, refl, puts))
cause_mid unopened.Memory old mid new result reads_source reads opens counts puts ends =
    subst (HasCause reads_source true (faults_of reads old) (faults_of reads new)) (sym ends.0)
    (world_same reads reads mid new refl ends.1.faults ∙ same_faults reads old mid counts puts)

-- ---- the run

-- the areas were read, and why no store is opened was put
pub record RunsUnopened (reason : Unopened) (old mid new : View) (result : Status) : Type 0 where
  pub opens : Opens (Err reason) old mid
  pub counts : CountsFault (is_failure reason) old mid
  pub quiet : IsQuiet old mid
  pub no_put : MakesNoPut old mid
  pub ends : EndsUnopened reason mid result new
  pub areas : KeepsAreas mid new

module _ (reason : Unopened) (old mid new : View) (result : Status) (ran : RunsUnopened reason old mid new result) where
  pub unopened_by : (P : Status → Type 0) → P SchemaRefused → P StoreRefused → P DiskFault → P Memory → P PutFault → P result
  unopened_by P schema store area memory put = by_unopened P schema store area memory put reason old mid new result ran.opens ran.ends

  pub unopened_answer : IsOfCommand result
  unopened_answer = unopened_by IsOfCommand tt tt tt tt tt

  pub unopened_shown : (go : SavedStore → Told Status) → IsTrue old.tells_bytes → Ends (shown_of old) (told_of_areas (areas_of old) go) result (shown_of new)
  unopened_shown go tells =
      subst (λ (s : Shown). Ends s (told_of_areas (areas_of old) go) result (shown_of new)) (shown_quiet old mid ran.quiet ran.no_put)
      (shown_mid reason old mid new result go ran.opens tells ran.ends)

  pub unopened_cause : (reads_source : Bool) (reads : ℕ) → HasCause reads_source true (faults_of reads old) (faults_of reads new) result
  unopened_cause reads_source reads = cause_mid reason old mid new result reads_source reads ran.opens ran.counts ran.no_put.put_faults ran.ends

  pub unopened_images : KeepsImages old new
  unopened_images = images_on old mid new (images_quiet old mid ran.quiet) (images_areas mid new ran.areas)

  -- of a command that reads: whatever it tells of a store, no read failed, and no input is too long
  pub unopened_unread : fails_read result ≡ false
  unopened_unread = unopened_by (λ status. fails_read status ≡ false) refl refl refl refl refl

  pub unopened_short : result ≡ InputTooLong → ⊥
  unopened_short = unopened_by (λ status. status ≡ InputTooLong → ⊥) (λ is. cc) (λ is. cc) (λ is. cc) (λ is. cc) (λ is. cc)

  pub unopened_read : (left : Option (List ℕ)) → IsRead left result
  unopened_read left = unopened_by (IsRead left) tt tt tt tt tt

  module _ (input : List ℕ) (budget : ℕ) (left : Option (List ℕ)) (is : left ≡ Some input) where
    pub unopened_takes : (rest : List ℕ) → left ≡ Some rest → TakesWithin input budget rest result
    unopened_takes rest left_is = record { within = within_unread input rest budget left is left_is; too_long = λ long. absurd (unopened_short long) }

    pub unopened_ends : (go : ℕ → SavedStore → Told Status) → IsTrue old.tells_bytes → EndsAs (λ bytes. told_of_areas (areas_of old) (go bytes)) (shown_of old) input budget left result (shown_of new)
    unopened_ends go tells = record {
      shown = unopened_shown (go budget) tells;
      read_fault = λ rest left_is fault. absurd (unopened_by (λ status. status ≡ ReadFault → ⊥) (λ so. cc) (λ so. cc) (λ so. cc) (λ so. cc) (λ so. cc) fault);
      within = λ rest left_is. within_unread input rest budget left is left_is;
      too_long = λ rest left_is long. absurd (unopened_short long);
    }
