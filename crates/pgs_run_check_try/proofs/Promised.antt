-- What is promised of a run, by how its run over lines ended.
use Rattle.std.proofs.Common.{◌≡◌, ◌⊎◌, inl, inr, ℕ, ◌+◌, ◌^◌, ◌<◌, ◌≤◌, Bool, true, false, List, [], ◌∷◌, Option, Some, Ok, Err, IsTrue, refl, sym, ap, subst, ◌∙◌, arith}
use Rattle.pgs_feed.specs.Places.{Place}
use Rattle.pgs_run_lines.specs.declared.stop.Stop.{Stop}
use Rattle.pgs_run_lines.specs.declared.stop.Stop.TheVariants as stops
use Rattle.pgs_run_lines.specs.Ending.{Faults, HasCause as HasStopCause, faults_of}
use Rattle.pgs_run_lines.specs.Machine.{Ended, Going, HasRoomFor, RunState, Extent, Whole, Inside, AtEnd, after_lines, scene_of, status_at_cut, told_at_end, told_by}
use Rattle.pgs_run_lines.specs.May.{MayCome}
use Rattle.pgs_run_lines.specs.Pieces.{Shown, shown_of}
use Rattle.pgs_run_lines.specs.Run as over
use Rattle.pgs_run_lines.specs.Run.{Allows, EndsBy, IsFar}
use Rattle.pgs_base.specs.Graph.{Graph}
use Rattle.pgs_snapshot.specs.Saved.{store}
use Rattle.pgs_store.specs.State.{GuardState}
use Rattle.pgs_store.specs.Stored.{StoreState}
use Rattle.pgs_syntax.specs.declared.resolved.Resolved.{Resolved}
use Rattle.pgs_violation.specs.Violations.{verdict}
use Rattle.pgs_world.specs.Moment.{IsQuiet, MakesNoPut}
use Rattle.pgs_world.specs.World.{View}
use Rattle.pgs_command.specs.declared.status.Status.{Status}
use Rattle.pgs_command.specs.declared.status.Status.TheVariants.{Accepted, BadWords, DiskFault, InputTooLong, Memory, PutFault, ReadFault, Refused as StatusRefused, SchemaRefused, StoreRefused}
use Rattle.pgs_command.specs.Areas.{areas_of}
use Rattle.pgs_command.specs.Ending.{status_at}
use Rattle.pgs_command.specs.Images.{KeepsImages}
use Rattle.pgs_command.specs.Promise.{Promise}
use Rattle.pgs_command.specs.Run.{EndsAs, HasCause, IsDisturbed, TakesWithin}
use Rattle.pgs_command.specs.Setting.{SourceState}
use Rattle.pgs_command.proofs.Images.{images_areas, images_on, images_quiet, settled_images}
use Rattle.pgs_command.proofs.OwnEnds.{EndsAlone, IsDone, cause_alone, ends_alone, full_alone, read_alone}
use Rattle.pgs_command.proofs.OwnPromise.{own_command}
use Rattle.pgs_command.proofs.Promising.{promise_reading}
use Rattle.pgs_run_input.specs.Answers.{schema_answer}
use Rattle.pgs_run_input.specs.Input.{text_limit}
use Rattle.pgs_run_input.specs.Session.{Standing, after_line as standing_after}
use Rattle.pgs_run_store.specs.declared.opening.Unopened.{Unopened}
use Rattle.pgs_run_store.specs.declared.opening.Unopened.TheVariants as unopened
use Rattle.pgs_run_store.specs.Ending.{EndsUnopened}
use Rattle.pgs_run_store.specs.Opening.{IsOpened, IsRefusal, Opens, saved_in}
use Rattle.pgs_run_store.specs.Refusing.{SavedStore}
use Rattle.pgs_run_store.proofs.Reading as reading
use Rattle.pgs_run_store.proofs.Saving.{never_refused}
use Rattle.pgs_run_store.proofs.Shown.{same_faults, shown_quiet}
use Rattle.pgs_run_store.proofs.Unread.{RunsUnopened, unopened_answer, unopened_cause, unopened_ends, unopened_images, unopened_read, unopened_short, unopened_takes}
use Rattle.pgs_run_check_try.specs.declared.phase.Phase.{Phase}
use Rattle.pgs_run_check_try.specs.declared.phase.Phase.TheVariants as phases
use Rattle.pgs_run_check_try.specs.Explaining.{after_end, after_part, deciding, explaining, first_phase, next_of, status_of}
use Rattle.pgs_run_check_try.specs.Right.{AreRight, lines_within}
use Rattle.pgs_run_check_try.specs.Rule.{explains, joined, joined_first, joined_second, place_to}
use Rattle.pgs_run_check_try.specs.Spec.{IsSavedIn, check_apply_spec, check_try_spec}
use Rattle.pgs_run_check_try.specs.State.{SessionState, session_after, state_of}
use Rattle.pgs_run_check_try.specs.Told.{Causes, start_on, status_after, told_check_apply, told_check_try, told_on}
use Rattle.pgs_run_check_try.proofs.Chosen.{chosen_ends}
use Rattle.pgs_run_check_try.proofs.Machine.{told_by_lines, told_by_try}
use Rattle.pgs_run_check_try.proofs.Right.{Rightly, lines_right, text_lines_right}
use Rattle.pgs_run_check_try.proofs.Taken.{all_right, fronts}

-- ---- the statuses of the machine's own

line_status : (phase : Phase) (status : Status) → next_of phase ≡ Ended status → status ≡ SchemaRefused
line_status (phases.Schema part) status is = cc
line_status (phases.Lines s) status is = cc
line_status phases.Refused status is = cc

done_lines : (refused : Bool) → IsDone (status_after refused)
done_lines true = inr (inl refl)
done_lines false = inl refl

done_of : (phase : Phase) → IsDone (status_of phase)
done_of (phases.Schema part) = inl refl
done_of (phases.Lines s) = done_lines s.standing.refused
done_of phases.Refused = inr (inr refl)

pub alone : EndsAlone deciding
alone = record {
  line = λ phase line status is. line_status (after_end phase line) status is;
  rest = λ phase rest. done_of (after_part (after_end phase rest));
  cut = λ phase. refl;
  no_area = λ may. may;
}

-- ---- a run over lines, from a phase on

-- what is known of it
pub record RunsOver (s : Phase) (budget : ℕ) (before left : SourceState) (stop : Stop Status) (old new : View) : Type 0 where
  pub by : EndsBy deciding budget before.left left.left stop
  pub may : MayCome deciding stop
  pub cause : HasStopCause (faults_of before.faults old) (faults_of left.faults new) stop
  pub allows : Allows deciding explains text_limit s budget before.left left.left stop (scene_of old tt) (scene_of new tt)

module _ (s : Phase) (budget : ℕ) (before left : SourceState) (stop : Stop Status) (old new : View) (ran : RunsOver s budget before left stop old new) where
  abbrev a : Allows deciding explains text_limit s budget before.left left.left stop (scene_of old tt) (scene_of new tt)
  a = ran.allows

  abbrev place : ℕ
  place = place_to s a.lines a.extent

  -- those of the lines that were taken, and none of others
  abbrev pub chosen : Causes
  chosen = joined place a.allowed.causes (λ number. [])

  agree : (k : ℕ) → k < place → chosen k ≡ a.allowed.causes k
  agree k below = joined_first place a.allowed.causes (λ number. []) k below

  lacks : (k : ℕ) → place ≤ k → chosen k ≡ []
  lacks k from = joined_second place a.allowed.causes (λ number. []) k from

  pub chosen_shown : (input : List ℕ) → before.left ≡ Some input → over.EndsAs (told_by (explaining chosen) text_limit s input) (shown_of old) input budget left.left stop (shown_of new)
  chosen_shown input is = chosen_ends text_limit s budget before.left left.left stop (scene_of old tt) (scene_of new tt) a chosen (λ k asked. agree k asked.1) input is

  pub chosen_right : (input : List ℕ) → before.left ≡ Some input → Rightly (IsDisturbed (status_at stop)) chosen (Going s) (fronts input budget)
  chosen_right input is =
      all_right chosen s budget before.left left.left (shown_of old) (shown_of new) a.bytes a.lines a.later stop input is a.taken a.parts a.extent a.short a.far
      (a.allowed.explained chosen (λ k asked. agree k asked.1)).right lacks

-- ---- `try`

module _ (budget : ℕ) (before left : SourceState) (stop : Stop Status) (old new : View) (places : List Place) (ran : RunsOver first_phase budget before left stop old new) where
  abbrev causes : Causes
  causes = chosen first_phase budget before left stop old new ran

  ended : (input : List ℕ) → before.left ≡ Some input → EndsAs (told_check_try causes input) (shown_of old) input budget left.left (status_at stop) (shown_of new)
  ended input is =
      ends_alone deciding alone budget before.left left.left (told_by (explaining causes) text_limit first_phase input) (told_check_try causes input) (told_by_try causes input)
      (shown_of old) (shown_of new) input stop (status_at stop) is refl ran.by (chosen_shown first_phase budget before left stop old new ran input is)

  pub promised_try : Promise check_try_spec budget (record { source = before; view = old; places = places }) (record { source = left; view = new; places = places }) (status_at stop)
  promised_try =
      let areas = ran.allows.allowed.areas in
      promise_reading check_try_spec budget (record { source = before; view = old; places = places }) (record { source = left; view = new; places = places }) (status_at stop) refl (record {
        choice = causes;
        right = λ input is. text_lines_right (IsDisturbed (status_at stop)) causes (lines_within input budget) (chosen_right first_phase budget before left stop old new ran input is);
        ends = λ input knows is. ended input is;
        takes = λ input rest is rest_is. record { within = (ended input is).within rest rest_is; too_long = (ended input is).too_long rest rest_is };
        full = full_alone deciding alone budget before.left left.left stop (status_at stop) refl ran.by;
        in_vain = λ vain. absurd vain;
        read_to_end = read_alone deciding alone budget before.left left.left stop (status_at stop) refl ran.by;
        may_end = own_command deciding alone budget before.left left.left stop (status_at stop) refl ran.by;
        cause = cause_alone deciding alone budget before.left left.left (faults_of before.faults old) (faults_of left.faults new) stop (status_at stop) refl ran.by ran.may ran.cause;
        leaves = areas;
        settles = λ settled no. settled_images old new settled (images_areas old new areas);
        feeds = refl;
      })

-- ---- `apply` on an opened store

-- a cause of a command that uses no area is one of a command that does
cause_area : (before now : Faults) (status : Status) → HasCause true false before now status → HasCause true true before now status
cause_area before now Accepted cause = cause
cause_area before now StatusRefused cause = cause
cause_area before now BadWords cause = cause
cause_area before now SchemaRefused cause = cause
cause_area before now StoreRefused cause = (refl, cause.1)
cause_area before now DiskFault cause = (refl, cause.1)
cause_area before now ReadFault cause = cause
cause_area before now PutFault cause = cause
cause_area before now Memory cause = cause
cause_area before now InputTooLong cause = cause

-- lines lead from lines to lines
abbrev IsLines : RunState Phase Status → Type 0
IsLines (Going (phases.Schema part)) = ⊥
IsLines (Going (phases.Lines s)) = Unit {0}
IsLines (Going phases.Refused) = ⊥
IsLines (Ended status) = ⊥

lines_on : (at : RunState Phase Status) (lines : List (List ℕ)) → IsLines at → IsLines (after_lines deciding at lines)
lines_on at [] is = is
lines_on (Going (phases.Lines s)) (line ∷ lines) is = lines_on (Going (phases.Lines (session_after s line))) lines tt
lines_on (Going (phases.Schema part)) (line ∷ lines) is = absurd is
lines_on (Going phases.Refused) (line ∷ lines) is = absurd is
lines_on (Ended status) (line ∷ lines) is = absurd is

unended : (at : RunState Phase Status) (status : Status) → IsLines at → at ≡ Ended status → ⊥
unended at status is ended = subst IsLines ended is

cut_lines : (at : RunState Phase Status) → IsLines at → status_at_cut deciding at ≡ InputTooLong
cut_lines (Going phase) is = refl
cut_lines (Ended status) is = absurd is

unrefused : (refused : Bool) → IsRefusal (status_after refused) → ⊥
unrefused true refusal = absurd refusal
unrefused false refusal = absurd refusal

end_lines : (at : RunState Phase Status) (rest : List ℕ) → IsLines at → IsRefusal (told_at_end deciding at rest).status → ⊥
end_lines (Going (phases.Schema part)) rest is refusal = absurd is
end_lines (Going (phases.Lines s)) rest is refusal = unrefused (standing_after (verdict s.schema) s.standing rest).refused refusal
end_lines (Going phases.Refused) rest is refusal = absurd is
end_lines (Ended status) rest is refusal = absurd is

-- so no run of lines ends as one whose store isn't opened
no_refusal : (s : Phase) (budget : ℕ) (left : Option (List ℕ)) (bytes : List ℕ) (lines later : List (List ℕ)) (extent : Extent Status) (stop : Stop Status) → IsLines (Going s)
    → IsFar deciding text_limit s budget left bytes lines later stop extent → IsRefusal (status_at stop) → ⊥
no_refusal s budget left bytes lines later Whole (stops.Ended status) is far refusal =
    subst IsRefusal (sym far.2 ∙ cut_lines (after_lines deciding (Going s) lines) (lines_on (Going s) lines is)) refusal
no_refusal s budget left bytes lines later (Inside at) (stops.Ended status) is far refusal = unended (after_lines deciding (Going s) lines) status (lines_on (Going s) lines is) far.1
no_refusal s budget left bytes lines later (AtEnd rest at) (stops.Ended status) is far refusal =
    end_lines (after_lines deciding (Going s) lines) rest (lines_on (Going s) lines is) (subst IsRefusal (sym far.4) refusal)
no_refusal s budget left bytes lines later extent stops.ReadFault is far refusal = absurd refusal
no_refusal s budget left bytes lines later extent stops.DiskFault is far refusal = absurd refusal
no_refusal s budget left bytes lines later extent stops.PutFault is far refusal = absurd refusal
no_refusal s budget left bytes lines later extent stops.Memory is far refusal = absurd refusal

-- ---- the store that the areas save

abbrev store_with : List ℕ → Resolved → ℕ → Graph → SavedStore
store_with text schema commits graph = record { text = text; schema = schema; commits = commits; graph = graph }

same_schema : (text other : List ℕ) (schema found : Resolved) → other ≡ text → schema_answer text ≡ Ok schema → schema_answer other ≡ Ok found → found ≡ schema
same_schema text other schema found same is of_text = let both : Ok found ≡ Ok schema = sym of_text ∙ ap schema_answer same ∙ is in cc

same_saved : (it : SavedStore) (opened : StoreState) (old mid : View) → IsOpened opened old mid → IsTrue old.tells_bytes → IsSavedIn it (areas_of old) → saved_in opened ≡ it
same_saved it opened old mid is tells known =
    let guard = opened.guard in
    let same : store guard.text guard.commits guard.graph ≡ store it.text it.commits it.graph = sym (is.saves tells) ∙ known.saves in
    let text : guard.text ≡ it.text = cc in
    let commits : guard.commits ≡ it.commits = cc in
    let graph : guard.graph ≡ it.graph = cc in
    ap (λ (x : List ℕ). store_with x guard.schema guard.commits guard.graph) text
    ∙ ap (λ (x : Resolved). store_with it.text x guard.commits guard.graph) (same_schema it.text guard.text it.schema guard.schema text known.schema is.schema)
    ∙ ap (λ (x : ℕ). store_with it.text it.schema x guard.graph) commits
    ∙ ap (λ (x : Graph). store_with it.text it.schema it.commits x) graph

-- ---- the run

abbrev pub phase_on : SavedStore → Phase
phase_on it = phases.Lines (record { text = it.text; schema = it.schema; standing = start_on it })

-- the store was opened, and its lines were run
pub record RunsOn (opened : StoreState) (budget : ℕ) (before left : SourceState) (stop : Stop Status) (old mid new : View) : Type 0 where
  pub is : IsOpened opened old mid
  pub areas : mid.area_faults ≡ old.area_faults
  pub quiet : IsQuiet old mid
  pub no_put : MakesNoPut old mid
  pub over : RunsOver (phase_on (saved_in opened)) budget before left stop mid new

module _ (opened : StoreState) (budget : ℕ) (before left : SourceState) (stop : Stop Status) (old mid new : View) (places : List Place) (ran : RunsOn opened budget before left stop old mid new) where
  abbrev it : SavedStore
  it = saved_in opened

  abbrev chosen_on : Causes
  chosen_on = chosen (phase_on it) budget before left stop mid new ran.over

  told_store : (input : List ℕ) (n : ℕ) → IsTrue old.tells_bytes → told_by (explaining chosen_on) text_limit (phase_on it) input n ≡ told_check_apply chosen_on input (areas_of old) n
  unfolding told_check_apply
  told_store input n tells =
      told_by_lines chosen_on it.text it.schema (start_on it) input n ∙ sym (reading.told_opened opened old mid (told_on chosen_on input n) ran.is tells)

  ended_on : (input : List ℕ) → IsTrue old.tells_bytes → before.left ≡ Some input → EndsAs (λ n. told_check_apply chosen_on input (areas_of old) n) (shown_of old) input budget left.left (status_at stop) (shown_of new)
  ended_on input tells is =
      subst (λ (start : Shown). EndsAs (λ n. told_check_apply chosen_on input (areas_of old) n) start input budget left.left (status_at stop) (shown_of new)) (shown_quiet old mid ran.quiet ran.no_put)
      (ends_alone deciding alone budget before.left left.left (told_by (explaining chosen_on) text_limit (phase_on it) input) (λ n. told_check_apply chosen_on input (areas_of old) n) (λ n. told_store input n tells)
      (shown_of mid) (shown_of new) input stop (status_at stop) is refl ran.over.by (chosen_shown (phase_on it) budget before left stop mid new ran.over input is))

  right_on : (input : List ℕ) (other : SavedStore) → before.left ≡ Some input → IsTrue old.tells_bytes → IsSavedIn other (areas_of old)
      → AreRight (IsDisturbed (status_at stop)) chosen_on other.text other.schema (start_on other) (lines_within input budget)
  right_on input other is tells known =
      subst (λ (x : SavedStore). AreRight (IsDisturbed (status_at stop)) chosen_on x.text x.schema (start_on x) (lines_within input budget)) (same_saved other opened old mid ran.is tells known)
      (lines_right (IsDisturbed (status_at stop)) chosen_on it.text it.schema (start_on it) (lines_within input budget) (chosen_right (phase_on it) budget before left stop mid new ran.over input is).0)

  taken_on : (input rest : List ℕ) → before.left ≡ Some input → left.left ≡ Some rest → TakesWithin input budget rest (status_at stop)
  taken_on input rest is rest_is =
      let ended = ends_alone deciding alone budget before.left left.left (told_by (explaining chosen_on) text_limit (phase_on it) input) (told_by (explaining chosen_on) text_limit (phase_on it) input) (λ n. refl)
      (shown_of mid) (shown_of new) input stop (status_at stop) is refl ran.over.by (chosen_shown (phase_on it) budget before left stop mid new ran.over input is) in
      record { within = ended.within rest rest_is; too_long = ended.too_long rest rest_is }

  images : KeepsImages old new
  images = images_on old mid new (images_quiet old mid ran.quiet) (images_areas mid new ran.over.allows.allowed.areas)

  never_vain : IsRefusal (status_at stop) ⊎ (IsTrue old.tells_bytes × ((other : SavedStore) → IsSavedIn other (areas_of old) → ⊥)) → ⊥
  never_vain (inl refusal) =
      let a = ran.over.allows in no_refusal (phase_on it) budget left.left a.bytes a.lines a.later a.extent stop tt a.far refusal
  never_vain (inr none) = none.1 it (record { saves = ran.is.saves none.0; schema = ran.is.schema })

  pub promised_apply : Promise check_apply_spec budget (record { source = before; view = old; places = places }) (record { source = left; view = new; places = places }) (status_at stop)
  promised_apply =
      let faults : faults_of before.faults mid ≡ faults_of before.faults old = same_faults before.faults old mid ran.areas ran.no_put.put_faults in
      promise_reading check_apply_spec budget (record { source = before; view = old; places = places }) (record { source = left; view = new; places = places }) (status_at stop) refl (record {
        choice = chosen_on;
        right = right_on;
        ends = λ input knows is. ended_on input (knows.bytes tt) is;
        takes = taken_on;
        full = full_alone deciding alone budget before.left left.left stop (status_at stop) refl ran.over.by;
        in_vain = λ vain. absurd (never_vain vain);
        read_to_end = read_alone deciding alone budget before.left left.left stop (status_at stop) refl ran.over.by;
        may_end = own_command deciding alone budget before.left left.left stop (status_at stop) refl ran.over.by;
        cause = cause_area (faults_of before.faults old) (faults_of left.faults new) (status_at stop)
            (subst (λ (f : Faults). HasCause true false f (faults_of left.faults new) (status_at stop)) faults
            (cause_alone deciding alone budget before.left left.left (faults_of before.faults mid) (faults_of left.faults new) stop (status_at stop) refl ran.over.by ran.over.may ran.over.cause));
        leaves = images;
        settles = λ settled no. settled_images old new settled images;
        feeds = refl;
      })

-- ---- `apply` where no store was opened

none_right : (Stopped : Type 0) (text : List ℕ) (schema : Resolved) (s : Standing) (lines : List (List ℕ)) → Stopped → AreRight Stopped (λ number. []) text schema s lines
none_right Stopped text schema s [] stopped = tt
none_right Stopped text schema s (line ∷ lines) stopped = (λ kept. inr (stopped, refl), none_right Stopped text schema (standing_after (verdict schema) s line) lines stopped)

-- where a store is saved, an area failed, or there was no memory
saved_disturbed : (reason : Unopened) (old mid new : View) (result : Status) (kept : SavedStore) → IsTrue old.tells_bytes → IsSavedIn kept (areas_of old) → Opens (Err reason) old mid → EndsUnopened reason mid result new → IsDisturbed result
saved_disturbed (unopened.Refused reply) old mid new result kept tells known opens ends = absurd (never_refused old kept.text kept.commits kept.graph reply.line reply.status tells known.saves opens.1)
saved_disturbed unopened.DiskFault old mid new result kept tells known opens ends = inr (inr (inr ends.0))
saved_disturbed unopened.Memory old mid new result kept tells known opens ends = inr (inr (inl ends.0))

pub promised_unopened : (reason : Unopened) (old mid new : View) (result : Status) → RunsUnopened reason old mid new result → (budget : ℕ) (source : SourceState) (places : List Place)
    → Promise check_apply_spec budget (record { source = source; view = old; places = places }) (record { source = source; view = new; places = places }) result
unfolding told_check_apply
promised_unopened reason old mid new result ran budget source places =
    let images = unopened_images reason old mid new result ran in
    promise_reading check_apply_spec budget (record { source = source; view = old; places = places }) (record { source = source; view = new; places = places }) result refl (record {
      choice = λ number. [];
      right = λ input it is tells known. none_right (IsDisturbed result) it.text it.schema (start_on it) (lines_within input budget) (saved_disturbed reason old mid new result it tells known ran.opens ran.ends);
      ends = λ input knows is. unopened_ends reason old mid new result ran input budget source.left is (λ bytes. told_on (λ number. []) input bytes) (knows.bytes tt);
      takes = λ input rest is left_is. unopened_takes reason old mid new result ran input budget source.left is rest left_is;
      full = λ long. absurd (unopened_short reason old mid new result ran long);
      in_vain = λ vain. refl;
      read_to_end = unopened_read reason old mid new result ran source.left;
      may_end = unopened_answer reason old mid new result ran;
      cause = unopened_cause reason old mid new result ran true source.faults;
      leaves = images;
      settles = λ settled alive. settled_images old new settled images;
      feeds = refl;
    })

-- ---- before the first line

pub room_text : (budget : ℕ) → budget ≤ 2 ^ 40 → HasRoomFor deciding (budget + 1) first_phase
room_text budget few = record { room = budget + 1; enough = omega arith; has = omega arith }

pub room_store : (it : SavedStore) (budget : ℕ) → budget ≤ 2 ^ 40 → HasRoomFor deciding (budget + 1) (phase_on it)
room_store it budget few = record { room = budget + 1; enough = omega arith; has = omega arith }

-- ---- where the machine stands before it

pub room_from : (s phase : Phase) (budget : ℕ) → phase ≡ s → HasRoomFor deciding (budget + 1) s → HasRoomFor deciding (budget + 1) phase
room_from s phase budget is room = subst (λ (p : Phase). HasRoomFor deciding (budget + 1) p) (sym is) room

pub runs_from : (s phase : Phase) (budget : ℕ) (before left : SourceState) (stop : Stop Status) (old new : View) → phase ≡ s → RunsOver phase budget before left stop old new → RunsOver s budget before left stop old new
runs_from s phase budget before left stop old new is ran = subst (λ (p : Phase). RunsOver p budget before left stop old new) is ran

pub phase_over : (opened : StoreState) (guard : GuardState) (s : SessionState) (phase : Phase) → guard ≡ opened.guard → s ≡ state_of guard 0 false → phase ≡ phases.Lines s → phase ≡ phase_on (saved_in opened)
phase_over opened guard s phase same is stands =
    stands ∙ ap (λ (x : SessionState). phases.Lines x) is ∙ ap (λ (x : GuardState). let p : Phase = phases.Lines (state_of x 0 false) in p) same
