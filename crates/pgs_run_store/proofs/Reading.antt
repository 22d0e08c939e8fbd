-- What is told of two areas whose store is opened, and the promise of a run that only tells.
use Rattle.std.proofs.Common.{◌≡◌, ◌⊎◌, inl, inr, IsTrue, List, ℕ, true, Result, refl, sym, ◌∙◌, ap, subst}
use Rattle.pgs_run_lines.specs.declared.stop.Stop.{Stop}
use Rattle.pgs_run_lines.specs.declared.stop.Stop.TheVariants as stops
use Rattle.pgs_run_lines.specs.Calls.{is_of_world}
use Rattle.pgs_run_lines.specs.Ending.{Faults, faults_of}
use Rattle.pgs_run_lines.specs.Machine.{Told}
use Rattle.pgs_run_lines.specs.Pieces.{Shown, shown_of}
use Rattle.pgs_run_lines.specs.Puts.{PutsAll, PutsUntil, StopsPutting}
use Rattle.pgs_run_lines.proofs.Causes.{world_same}
use Rattle.pgs_command.specs.declared.status.Status.{Status}
use Rattle.pgs_command.specs.declared.status.Status.TheVariants.{Accepted, Refused}
use Rattle.pgs_command.specs.Areas.{areas_of}
use Rattle.pgs_command.specs.Calls.{fails_world}
use Rattle.pgs_command.specs.Ending.{Ends, status_at}
use Rattle.pgs_command.specs.Images.{KeepsImages}
use Rattle.pgs_command.specs.Promise.{PromiseAlone}
use Rattle.pgs_command.specs.Run.{HasCause}
use Rattle.pgs_command.proofs.Images.{images_areas, images_on, images_quiet, settled_images}
use Rattle.pgs_command.proofs.Promising.{promise_alone}
use Rattle.pgs_snapshot.specs.Saved.{SavedState}
use Rattle.pgs_store.specs.Stored.{StoreState}
use Rattle.pgs_syntax.specs.declared.resolved.Resolved.{Resolved}
use Rattle.pgs_world.specs.Moment.{IsQuiet, MakesNoPut}
use Rattle.pgs_world.specs.World.{View}
use Rattle.pgs_run_store.specs.declared.opening.Unopened.{Unopened}
use Rattle.pgs_run_store.specs.Opening.{IsOpened, saved_in}
use Rattle.pgs_run_store.specs.Refusing.{SavedStore, told_of_areas, told_saved, told_under}
use Rattle.pgs_run_store.specs.Spec.{PutsTold, reader_spec}
use Rattle.pgs_run_store.proofs.Shown.{same_faults, shown_quiet}
use Rattle.pgs_run_store.proofs.Unread.{RunsUnopened, unopened_answer, unopened_cause, unopened_images, unopened_shown}

-- the areas were only read
pub record RunsOpened (it : StoreState) (old mid : View) : Type 0 where
  pub opened : IsOpened it old mid
  pub areas : mid.area_faults ≡ old.area_faults
  pub quiet : IsQuiet old mid
  pub no_put : MakesNoPut old mid

-- what a command tells of the two areas is what it tells of the store
pub told_opened : (it : StoreState) (old now : View) (go : SavedStore → Told Status) → IsOpened it old now → IsTrue old.tells_bytes → told_of_areas (areas_of old) go ≡ go (saved_in it)
unfolding told_of_areas
told_opened it old now go is told =
    ap (λ (s : SavedState). told_saved s go) (is.saves told)
    ∙ ap (λ (a : Result Resolved (List ℕ)). told_under a (λ schema. go (record { text = it.guard.text; schema = schema; commits = it.guard.commits; graph = it.guard.graph }))) is.schema

pub ends_opened : (it : StoreState) (old mid new : View) (go : SavedStore → Told Status) (status : Status) → IsOpened it old mid → IsQuiet old mid → MakesNoPut old mid
    → Ends (shown_of mid) (go (saved_in it)) status (shown_of new) → IsTrue old.tells_bytes → Ends (shown_of old) (told_of_areas (areas_of old) go) status (shown_of new)
ends_opened it old mid new go status is quiet no_put ends told =
    subst (λ (t : Told Status). Ends (shown_of old) t status (shown_of new)) (sym (told_opened it old mid go is told))
    (subst (λ (s : Shown). Ends s (go (saved_in it)) status (shown_of new)) (shown_quiet old mid quiet no_put) ends)

-- ---- what a reader does

pub all_told : (told : Told Status) (old new : View) (status : Status) → (status ≡ Accepted) ⊎ (status ≡ Refused) → told.status ≡ status → PutsAll old told.pieces new → PutsTold told old status new
all_told told old new status (inl is) same puts =
    subst (λ (s : Status). PutsTold told old s new) (sym is)
    (record { ends = (puts.shows, same ∙ is); answer = tt; cause = λ reads_source uses_areas reads. world_same reads reads old new refl puts.faults; areas = puts.areas })
all_told told old new status (inr is) same puts =
    subst (λ (s : Status). PutsTold told old s new) (sym is)
    (record { ends = (puts.shows, same ∙ is); answer = tt; cause = λ reads_source uses_areas reads. world_same reads reads old new refl puts.faults; areas = puts.areas })

told_at : (stop : Stop Status) (told : Told Status) (old new : View) → PutsUntil old told.pieces stop new → PutsTold told old (status_at stop) new
told_at (stops.Ended status) told old new until = absurd until.only
told_at stops.ReadFault told old new until = absurd until.only
told_at stops.DiskFault told old new until = absurd until.only
told_at stops.PutFault told old new until =
    record { ends = until.shows; answer = tt; cause = λ reads_source uses_areas reads. (until.cause.0, refl, until.cause.2); areas = until.areas }
told_at stops.Memory told old new until =
    record { ends = until.shows; answer = tt; cause = λ reads_source uses_areas reads. world_same reads reads old new refl until.cause; areas = until.areas }

pub until_told : (stop : Stop Status) (status : Status) (told : Told Status) (old new : View) → status ≡ status_at stop → PutsUntil old told.pieces stop new → PutsTold told old status new
until_told stop status told old new is until = subst (λ (s : Status). PutsTold told old s new) (sym is) (told_at stop told old new until)

-- the status says that a call failed exactly where one did
stop_fails : (stop : Stop Status) → StopsPutting stop → fails_world (status_at stop) ≡ is_of_world stop
stop_fails (stops.Ended status) only = absurd only
stop_fails stops.ReadFault only = absurd only
stop_fails stops.DiskFault only = absurd only
stop_fails stops.PutFault only = refl
stop_fails stops.Memory only = refl

pub until_last : (stop : Stop Status) (status : Status) (failed : Type 0) → status ≡ status_at stop → StopsPutting stop → (is_of_world stop ≡ true → failed) → fails_world status ≡ true → failed
until_last stop status failed is only last fails = last (sym (stop_fails stop only) ∙ sym (ap fails_world is) ∙ fails)

-- ---- the promise

pub promised_told : (it : StoreState) (old mid new : View) (tells : SavedStore → Told Status) (status : Status) → RunsOpened it old mid → PutsTold (tells (saved_in it)) mid status new → PromiseAlone (reader_spec tells) old new status
promised_told it old mid new tells status ran put budget source places =
    let images : KeepsImages old new = images_on old mid new (images_quiet old mid ran.quiet) (images_areas mid new put.areas) in
    promise_alone (reader_spec tells) budget (record { source = source; view = old; places = places }) (record { source = source; view = new; places = places }) status refl (record {
      choice = tt;
      right = tt;
      shown = λ input knows. ends_opened it old mid new tells status ran.opened ran.quiet ran.no_put put.ends (knows.bytes tt);
      unread = refl;
      may_end = put.answer;
      cause = subst (λ (f : Faults). HasCause (reader_spec tells).reads_source true f (faults_of source.faults new) status) (same_faults source.faults old mid ran.areas ran.no_put.put_faults)
          (put.cause (reader_spec tells).reads_source true source.faults);
      leaves = images;
      settles = λ settled no. settled_images old new settled images;
      feeds = refl;
    })

pub promised_unopened : (reason : Unopened) (old mid new : View) (tells : SavedStore → Told Status) (status : Status) → RunsUnopened reason old mid new status → PromiseAlone (reader_spec tells) old new status
promised_unopened reason old mid new tells status ran budget source places =
    promise_alone (reader_spec tells) budget (record { source = source; view = old; places = places }) (record { source = source; view = new; places = places }) status refl (record {
      choice = tt;
      right = tt;
      shown = λ input knows. unopened_shown reason old mid new status ran tells (knows.bytes tt);
      unread = refl;
      may_end = unopened_answer reason old mid new status ran;
      cause = unopened_cause reason old mid new status ran (reader_spec tells).reads_source source.faults;
      leaves = unopened_images reason old mid new status ran;
      settles = λ settled no. settled_images old new settled (unopened_images reason old mid new status ran);
      feeds = refl;
    })
