-- The promise of a run whose store isn't opened.
use Rattle.std.proofs.Common.{◌≡◌, inl, inr, ℕ, true, false, List, [], Err, IsTrue, refl, sym, subst}
use Rattle.pgs_feed.specs.Places.{Place, lost_count}
use Rattle.pgs_run_store.specs.declared.opening.Unopened.{Unopened}
use Rattle.pgs_run_store.specs.declared.opening.Unopened.TheVariants as unopened
use Rattle.pgs_run_store.specs.Ending.{EndsUnopened, is_refusal}
use Rattle.pgs_run_store.specs.Opening.{Opens}
use Rattle.pgs_run_store.specs.Refusing.{SavedStore}
use Rattle.pgs_run_store.proofs.Saving.{never_refused}
use Rattle.pgs_run_store.proofs.Unread.{RunsUnopened, unopened_answer, unopened_cause, unopened_ends, unopened_images, unopened_read, unopened_short, unopened_takes}
use Rattle.pgs_world.specs.Moment.{EachSince, IsTimed}
use Rattle.pgs_world.specs.World.{View, other}
use Rattle.pgs_command.specs.declared.status.Status.{Status}
use Rattle.pgs_command.specs.declared.status.Status.TheVariants.{DiskFault, Memory}
use Rattle.pgs_command.specs.Images.{KeepsImages}
use Rattle.pgs_command.specs.Promise.{Promise}
use Rattle.pgs_command.specs.Setting.{SourceState}
use Rattle.pgs_command.proofs.Images.{area_of_images, settled_images}
use Rattle.pgs_command.proofs.Promising.{promise_reading}
use Rattle.pgs_run_apply.specs.Giving.{GivesApplied, IsGivenBy}
use Rattle.pgs_run_apply.specs.Leaving.{FeedsApplied, LeavesApplied}
use Rattle.pgs_run_apply.specs.Run.{Saves, IsAppliedAt, IsDecided}
use Rattle.pgs_run_apply.specs.Spec.{apply_spec}
use Rattle.pgs_run_apply.specs.Told.{told_apply, told_lines, with_last}
use Rattle.pgs_run_apply.proofs.Unmoved.{decided_start, given_start, grown_kept, quiet_applied}

-- where a store is saved, an area failed, or there was no memory, and nothing was put
saved_by : (P : View → Status → Type 0) (reason : Unopened) (old mid new : View) (result : Status) (it : SavedStore) → IsTrue old.tells_bytes → Saves it old.shown → Opens (Err reason) old mid → EndsUnopened reason mid result new
    → (is_refusal reason ≡ false → new ≡ mid) → P mid DiskFault → P mid Memory → P new result
saved_by P (unopened.Refused reply) old mid new result it tells known opens ends early area memory = absurd (never_refused old it.text it.commits it.graph reply.line reply.status tells known.saves opens.1)
saved_by P unopened.DiskFault old mid new result it tells known opens ends early area memory = subst (λ (s : Status). P new s) (sym ends.0) (subst (λ (v : View). P v DiskFault) (sym (early refl)) area)
saved_by P unopened.Memory old mid new result it tells known opens ends early area memory = subst (λ (s : Status). P new s) (sym ends.0) (subst (λ (v : View). P v Memory) (sym (early refl)) memory)

module _ (reason : Unopened) (old mid new : View) (result : Status) (timed : IsTimed old) (early : is_refusal reason ≡ false → new ≡ mid) (ran : RunsUnopened reason old mid new result) (budget : ℕ) (source : SourceState) (places : List Place) where
  images : KeepsImages old new
  images = unopened_images reason old mid new result ran

  leaves : LeavesApplied source.left (lost_count places) old new
  leaves = record {
    passes = images.passes;
    stops = λ input it is saves tells settled.
        saved_by (λ (v : View) (s : Status). EachSince (IsAppliedAt old.shown it input (lost_count places)) old v) reason old mid new result it settled.tells_bytes saves ran.opens ran.ends early
        (quiet_applied old mid it input (lost_count places) timed tells settled ran.quiet saves) (quiet_applied old mid it input (lost_count places) timed tells settled ran.quiet saves);
    grows = λ it saves settled. grown_kept old new it settled images saves;
    unsaved = λ tells none. images;
    beside = λ tells area is. area_of_images (other area) old new images;
  }

  pub gives_unopened : GivesApplied source.left (lost_count places) old new result []
  gives_unopened = record {
    decided = λ tells input it is saves.
        saved_by (λ (v : View) (s : Status). IsGivenBy it input (lost_count places) old v s []) reason old mid new result it tells saves ran.opens ran.ends early
        (given_start it input (lost_count places) old mid DiskFault (inl refl) ran.quiet ran.no_put) (given_start it input (lost_count places) old mid Memory (inr refl) ran.quiet ran.no_put);
    unsaved = λ tells none. refl;
    before = inl refl;
  }

  feeds : FeedsApplied source.left old new places places result
  feeds = record {
    decided = λ tells input it is saves.
        saved_by (λ (v : View) (s : Status). IsDecided it input (lost_count places) old v places places s) reason old mid new result it tells saves ran.opens ran.ends early
        (decided_start it input (lost_count places) old mid places DiskFault (inl refl) ran.quiet ran.no_put saves) (decided_start it input (lost_count places) old mid places Memory (inr refl) ran.quiet ran.no_put saves);
    unsaved = λ tells none. refl;
  }

  pub promised_unopened : Promise apply_spec budget (record { source = source; view = old; places = places }) (record { source = source; view = new; places = places }) result
  unfolding told_apply
  promised_unopened =
      promise_reading apply_spec budget (record { source = source; view = old; places = places }) (record { source = source; view = new; places = places }) result refl
      (record {
        choice = tt;
        right = tt;
        ends = λ input knows is. unopened_ends reason old mid new result ran input budget source.left is (λ bytes store. with_last (lost_count places) (told_lines input bytes store)) (knows.bytes tt);
        takes = λ input rest is left_is. unopened_takes reason old mid new result ran input budget source.left is rest left_is;
        full = λ long. absurd (unopened_short reason old mid new result ran long);
        in_vain = λ vain. refl;
        read_to_end = unopened_read reason old mid new result ran source.left;
        may_end = unopened_answer reason old mid new result ran;
        cause = unopened_cause reason old mid new result ran true source.faults;
        leaves = leaves;
        settles = λ settled alive. settled_images old new settled images;
        feeds = feeds;
      })
