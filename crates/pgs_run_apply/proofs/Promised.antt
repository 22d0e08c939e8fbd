-- The promise of a run on an opened store.
use Rattle.std.proofs.Common.{◌≡◌, inl, inr, ⊎_elim, ℕ, ◌+◌, ◌^◌, ◌≤◌, true, false, nat_le, List, [], ◌∷◌, ◌++◌, length, Option, Some, None, IsTrue, refl, sym, ap, subst, ◌∙◌, append_assoc, length-append, arith}
use Rattle.std.proofs.lemmas.Bool.Decides.{nat_tests}
use Rattle.std.proofs.lemmas.List.{append-nil}
use Rattle.std.specs.List.{concat}
use Rattle.pgs_feed.specs.Given.{AreGiven}
use Rattle.pgs_feed.specs.Deliveries.{Delivery, ListKind, behind, lines_in}
use Rattle.pgs_feed.specs.Places.{lost_count}
use Rattle.pgs_run_lines.specs.declared.stop.Stop.{Stop}
use Rattle.pgs_run_lines.specs.declared.stop.Stop.TheVariants as stops
use Rattle.pgs_run_lines.specs.Ending.{Faults, HasCause as HasStopCause, faults_of}
use Rattle.pgs_run_lines.specs.Machine.{HasRoomFor, Scene, told_by}
use Rattle.pgs_run_lines.specs.Pieces.{Shown, ShowsAll, pieces_in, shown_of}
use Rattle.pgs_run_lines.specs.Run as over
use Rattle.pgs_run_lines.specs.Run.{EndsBy, Allows}
use Rattle.pgs_run_lines.proofs.Showing.{shows_on, torn_puts}
use Rattle.pgs_snapshot.specs.Choice.{chosen_area}
use Rattle.pgs_store.specs.Stored.{StoreState}
use Rattle.pgs_violation.specs.Violations.{verdict}
use Rattle.pgs_world.specs.Disk.{PutsFront}
use Rattle.pgs_world.specs.Moment.{IsTimed, IsQuiet, IsSettled, MakesNoPut, Passes, EachSince, StopsBy}
use Rattle.pgs_world.specs.declared.area.Area.{Area}
use Rattle.pgs_world.specs.World.{Triple, View, other}
use Rattle.pgs_world.proofs.Moments.{passes_on, each_now, each_on, each_quiet, each_step, each_weaker, shown_added}
use Rattle.pgs_command.specs.declared.status.Status.{Status}
use Rattle.pgs_command.specs.declared.status.Status.TheVariants.{Accepted, Refused, DiskFault, ReadFault, PutFault, Memory, InputTooLong}
use Rattle.pgs_command.specs.Areas.{areas_of}
use Rattle.pgs_command.specs.Ending.{status_at}
use Rattle.pgs_command.specs.Images.{KeepsArea, KeepsImages}
use Rattle.pgs_command.specs.Feeding.{Gives}
use Rattle.pgs_command.specs.Promise.{Promise}
use Rattle.pgs_command.specs.Run.{EndsAs}
use Rattle.pgs_command.specs.Setting.{Setting, SourceState}
use Rattle.pgs_command.proofs.Images.{area_of_images, area_on, each_images, images_areas, images_quiet, settled_images}
use Rattle.pgs_command.proofs.Promising.{promise_reading}
use Rattle.pgs_run_input.specs.Input.{text_limit}
use Rattle.pgs_run_store.specs.Opening.{IsOpened, saved_in}
use Rattle.pgs_run_store.specs.Refusing.{SavedStore}
use Rattle.pgs_run_store.proofs.Reading as reading
use Rattle.pgs_run_store.proofs.Shown.{shown_quiet, same_faults}
use Rattle.pgs_run_apply.specs.Applying.{AreReached, IsLeft, applying, seen}
use Rattle.pgs_run_apply.specs.Committing.{deliveries}
use Rattle.pgs_run_apply.specs.Ending.{EndsRun, StaysStill}
use Rattle.pgs_run_apply.specs.Giving.{IsGivenBy}
use Rattle.pgs_run_apply.specs.Leaving.{FeedsApplied, LeavesApplied}
use Rattle.pgs_run_apply.specs.Outcome.{Outcome, HasPut, is_struck, is_torn, outcome_of_all}
use Rattle.pgs_run_apply.specs.Rule.{applies_rule}
use Rattle.pgs_run_apply.specs.Run.{Saves, SavesOn, IsAppliedAt, IsDecided, IsGrown, IsPutBy}
use Rattle.pgs_run_apply.specs.Spec.{apply_spec}
use Rattle.pgs_run_apply.specs.State.{ApplyState, HoldsStore}
use Rattle.pgs_run_apply.specs.Told.{start, after, all_lines, is_done, last_piece, lost_piece, lost_pieces, told_apply, told_lines, verdicts, with_last}
use Rattle.pgs_run_apply.proofs.Unmoved.{grown_kept, grown_same, quiet_applied, saves_on_same}
use Rattle.pgs_run_apply.proofs.Ended.{by_last, by_stop, ended_cause, ends_last, is_full, is_read, may_end, still_shown, takes_last, unrefused}
use Rattle.pgs_run_apply.proofs.Machine.{first_state, told_by_applying, told_follows}
use Rattle.pgs_run_apply.proofs.Reading.{input_left, input_went, reached_at}
use Rattle.pgs_run_apply.proofs.Saving.{Chooses, applied_at, chooses, left_applied, left_grown, same_store, saves_on}

told_opened : (it : StoreState) (old mid : View) (input : List ℕ) (n lost : ℕ) → IsOpened it old mid → IsTrue old.tells_bytes → told_apply input (areas_of old) n lost ≡ with_last lost (told_lines input n (saved_in it))
unfolding told_apply
told_opened it old mid input n lost opened tells = reading.told_opened it old mid (λ store. with_last lost (told_lines input n store)) opened tells

told_cut : (it : SavedStore) (input : List ℕ) (n : ℕ) → n ≤ length input → (told_lines input n it).status ≡ InputTooLong
told_cut it input n few = let e : nat_le n (length input) ≡ true = grind (arith, nat_tests) in rw e refl

-- before the first line each line that the budget may bring can be counted
pub first_room : (s : ApplyState) (it : StoreState) (budget : ℕ) → s ≡ first_state it → budget ≤ 2 ^ 40 → HasRoomFor applying (budget + 1) s
first_room s it budget first few =
    subst (λ (t : ApplyState). HasRoomFor applying (budget + 1) t) (sym first) (record { room = budget + 1; enough = omega arith; has = omega arith })

-- and the store stands on the world
pub first_holds : (s : ApplyState) (it : StoreState) (old mid : View) → s ≡ first_state it → IsOpened it old mid → HoldsStore s mid
first_holds s it old mid first opened =
    subst (λ (t : ApplyState). HoldsStore t mid) (sym first) (record { limits = opened.limits; whole = opened.whole; stands = opened.stands })

-- whatever was put last, both images are kept
last_images : (last : Option (List ℕ)) (status : Status) (old : View) (result : Status) (new : View) → EndsRun last status old result new → KeepsImages old new
last_images None status old result new at = images_quiet old new at.1.quiet
last_images (Some piece) status old result new (inl none) = images_quiet old new none.1.quiet
last_images (Some piece) status old result new (inr put) = images_areas old new put.areas

-- ---- what was put

module _ (it : SavedStore) (until later : List (List ℕ)) (lost : ℕ) (start : Shown) (old new : View) (result : Status) where
  abbrev PutBy : View → Status → Type 0
  PutBy view status = IsPutBy it until later lost start (shown_of view) status

  still_put : (status : Status) → (result ≡ status) × StaysStill old new → PutBy old status → PutBy new result
  still_put status last put =
      subst (PutBy new) (sym last.0) (subst (λ (now : Shown). IsPutBy it until later lost start now status) (sym (still_shown old new last.1)) put)

  -- behind a whole input
  done_put : (status : Status) → ((later ≡ []) × ShowsAll start (verdicts it until ++ lost_pieces lost) (shown_of new) → PutBy new status)
      → ShowsAll start (verdicts it until) (shown_of old) → later ≡ [] → EndsRun (lost_piece lost) status old result new → PutBy new result
  done_put status made put none =
      let all = verdicts it until in
      by_last (PutBy new) (lost_piece lost) status result old new
      (λ no still.
      made (
        none,
        subst (λ (last : Option (List ℕ)). ShowsAll start (all ++ pieces_in last) (shown_of new)) (sym no)
            (subst (λ (pieces : List (List ℕ)). ShowsAll start pieces (shown_of new)) (sym (append-nil all)) (subst (λ (now : Shown). ShowsAll start all now) (sym (still_shown old new still)) put)),
      ))
      (λ piece is still. subst (λ (now : Shown). ShowsAll start all now) (sym (still_shown old new still)) put)
      (λ piece is shows faults. made (none, subst (λ (last : Option (List ℕ)). ShowsAll start (all ++ pieces_in last) (shown_of new)) (sym is) (shows_on start (shown_of old) (shown_of new) all (piece ∷ []) put shows)))
      (λ piece is shows rose.
      let same = torn_puts (shown_of old) (shown_of new) piece shows in
      let before = put.puts in
      let count : length (all ++ lost_pieces lost) ≡ length all + 1 = ap (λ (last : Option (List ℕ)). length (all ++ pieces_in last)) is ∙ length-append all (piece ∷ []) in
      inr (none, omega (arith, same, before, count)))

  put_by : (budget : ℕ) (before left : Option (List ℕ)) (stop : Stop Status) → EndsBy applying budget before left stop → HasPut (is_torn (Some stop)) start (verdicts it until) (shown_of old)
      → (is_done (status_at stop) ≡ true → later ≡ []) → EndsRun (last_piece (status_at stop) lost) (status_at stop) old result new → PutBy new result
  put_by budget before left stop by =
      by_stop
      (λ (x : Stop Status). HasPut (is_torn (Some x)) start (verdicts it until) (shown_of old) → (is_done (status_at x) ≡ true → later ≡ []) → EndsRun (last_piece (status_at x) lost) (status_at x) old result new → PutBy new result)
      budget before left (λ end put whole. done_put Accepted (λ made. made) put (whole refl)) (λ end put whole. done_put Refused (λ made. made) put (whole refl))
      (λ bytes taken full put whole last. still_put InputTooLong last put) (λ put whole last. still_put ReadFault last put) (λ put whole last. still_put DiskFault last put)
      (λ put whole last. still_put PutFault last (inl put)) (λ put whole last. still_put Memory last put) stop by

-- ---- the run

-- a triple that shows what this one shows
abbrev IsShown : Triple → Triple → Type 0
IsShown shown triple = (triple.a ≡ shown.a) × (triple.b ≡ shown.b) × (triple.output ≡ shown.output)

-- what is known of it: its store was opened, its lines were run, and its last piece was put
pub record RunsOn (kind : ListKind) (it : StoreState) (s : ApplyState) (budget : ℕ) (before left : SourceState) (stop : Stop Status) (result : Status) (old : View) (mid now : Scene kind.Feeds) (new : View) : Type 0 where
  pub timed : IsTimed old
  pub opened : IsOpened it old mid.view
  pub quiet : IsQuiet old mid.view
  pub no_put : MakesNoPut old mid.view
  pub areas : mid.view.area_faults ≡ old.area_faults
  pub ends : (input : List ℕ) → before.left ≡ Some input → over.EndsAs (told_by applying text_limit s input) (shown_of mid.view) input budget left.left stop (shown_of now.view)
  pub by : EndsBy applying budget before.left left.left stop
  pub cause : HasStopCause (faults_of before.faults mid.view) (faults_of left.faults now.view) stop
  pub allows : Allows applying (applies_rule kind) text_limit s budget before.left left.left stop mid now
  pub last : EndsRun (last_piece (status_at stop) (lost_count (kind.places now.kept))) (status_at stop) now.view result new

module _ (kind : ListKind) (it : StoreState) (budget : ℕ) (before left : SourceState) (stop : Stop Status) (result : Status) (old : View) (mid now : Scene kind.Feeds) (new : View) (r : RunsOn kind it (first_state it) budget before left stop result old mid now new) where
  abbrev lost : ℕ
  lost = lost_count (kind.places now.kept)

  abbrev Last : Stop Status → Type 0
  Last x = EndsRun (last_piece (status_at x) lost) (status_at x) now.view result new

  -- behind the lines both images are kept
  kept : KeepsImages now.view new
  kept = last_images (last_piece (status_at stop) lost) (status_at stop) now.view result new r.last

  passes : Passes old now.view
  passes = passes_on old mid.view now.view r.quiet.passes r.allows.allowed.passes

  struck : (result ≡ DiskFault → ⊥) → is_struck (Some stop) ≡ false
  struck alive =
      by_stop (λ (x : Stop Status). Last x → is_struck (Some x) ≡ false) budget before.left left.left (λ end last. refl) (λ end last. refl) (λ bytes taken full last. refl) (λ last. refl)
      (λ last. absurd (alive last.0)) (λ last. refl) (λ last. refl) stop r.by r.last

  -- nothing is pending at the end
  settles : IsSettled old → (result ≡ DiskFault → ⊥) → IsSettled new
  settles settled alive =
      let a = r.allows in
      let reached = reached_at kind (first_state it) budget left.left a.bytes a.lines a.later stop a.extent mid now a.far a.allowed.reached in
      settled_images now.view new ((reached.reached.holds (struck alive)).stands.settled (passes.honest ∙ settled.honest) (passes.tells_bytes ∙ settled.tells_bytes)) kept

  module _ (tells : IsTrue old.tells_bytes) where
    chosen : Chooses it.journal old.shown
    chosen = subst (λ (t : Triple). Chooses it.journal t) r.quiet.shown (chooses it.guard it.journal mid.view.shown (r.opened.stands.saved (r.quiet.passes.tells_bytes ∙ tells)))

    -- the other area is left alone
    beside : (area : Area) → chosen_area old.shown.a old.shown.b ≡ Some area → KeepsArea (other area) old new
    beside area is =
        let some : Some it.journal.area ≡ Some area = sym chosen.area ∙ is in
        let same : it.journal.area ≡ area = cc in
        area_on (other area) old mid.view new (area_of_images (other area) old mid.view (images_quiet old mid.view r.quiet))
        (area_on (other area) mid.view now.view new (subst (λ (a : Area). KeepsArea (other a) mid.view now.view) same r.allows.allowed.beside)
        (area_of_images (other area) now.view new kept))

    here : Saves (saved_in it) old.shown
    here = record { saves = r.opened.saves tells; schema = r.opened.schema }

    -- whatever source and output tell
    grows : IsSettled old → EachSince (IsGrown (saved_in it) old.shown) old new
    grows settled =
        let P = IsGrown (saved_in it) old.shown in
        let lines = seen r.allows.lines r.allows.extent in
        let inside = each_weaker mid.view now.view (IsLeft (first_state it) lines mid.view.tells_output mid.view.shown.output) P
        (left_grown it r.opened.limits r.opened.schema old.shown chosen lines mid.view.tells_output mid.view.shown.output)
        (r.allows.allowed.stops (r.quiet.passes.honest ∙ settled.honest) (r.quiet.passes.tells_bytes ∙ tells)) in
        let so_far = each_on old mid.view now.view P r.quiet.passes r.allows.allowed.passes (grown_kept old mid.view (saved_in it) settled (images_quiet old mid.view r.quiet) here) inside in
        each_on old now.view new P passes kept.passes so_far
        (each_images now.view new P (passes.honest ∙ settled.honest) (grown_same (saved_in it) old.shown) kept (each_now old now.view P passes so_far))

    module _ (input : List ℕ) (is : before.left ≡ Some input) where
      abbrev went : AreReached kind (first_state it) (all_lines input) (is_done (status_at stop)) (Some stop) mid now
      went = (input_went kind (first_state it) input budget before.left left.left stop mid now is r.allows).all

      follows : (lines : List (List ℕ)) → (outcome_of_all (first_state it) lines).pieces ≡ verdicts (saved_in it) lines
      follows lines = (told_follows it lines).pieces

      -- the store after these lines, where it stands on the world
      stands_on : (lines : List (List ℕ)) → HoldsStore (outcome_of_all (first_state it) lines).state now.view → SavesOn (saved_in it) (after (saved_in it) lines) old.shown now.view.shown
      stands_on lines holds = saves_on it r.opened.limits r.opened.schema old.shown chosen lines now.view.shown (holds.stands.saved (passes.tells_bytes ∙ tells))

      -- what was put
      put_went : IsPutBy (saved_in it) went.until went.later lost (shown_of old) (shown_of new) result
      put_went =
          put_by (saved_in it) went.until went.later lost (shown_of old) now.view new result budget before.left left.left stop r.by
          (subst (λ (start : Shown). HasPut (is_torn (Some stop)) start (verdicts (saved_in it) went.until) (shown_of now.view)) (shown_quiet old mid.view r.quiet r.no_put)
          (subst (λ (pieces : List (List ℕ)). HasPut (is_torn (Some stop)) (shown_of mid.view) pieces (shown_of now.view)) (follows went.until) went.reached.put)) went.whole r.last

      -- how it ends
      decided : IsDecided (saved_in it) input lost old new (kind.places mid.kept) (kind.places now.kept) result
      decided = record {
        until = went.until;
        later = went.later;
        parts = went.parts;
        put = put_went;
        given = subst (λ (ds : List Delivery). AreGiven (lines_in ds) (kind.places mid.kept) (kind.places now.kept)) (told_follows it went.until).given went.reached.given;
        saves = λ alive. saves_on_same (saved_in it) (after (saved_in it) went.until) old.shown now.view.shown new.shown kept.a kept.b (stands_on went.until (went.reached.holds (struck alive)));
      }

      module _ (output : IsTrue old.tells_output) (settled : IsSettled old) where
        abbrev Stops : Triple → Type 0
        Stops c = IsAppliedAt old.shown (saved_in it) input lost c

        so_far : EachSince Stops old now.view
        so_far =
            each_on old mid.view now.view Stops r.quiet.passes r.allows.allowed.passes (quiet_applied old mid.view (saved_in it) input lost r.timed output settled r.quiet here)
            (each_weaker mid.view now.view (IsLeft (first_state it) (all_lines input) mid.view.tells_output mid.view.shown.output) Stops
            (λ c left.
            left_applied it r.opened.limits r.opened.schema old.shown chosen input lost c mid.view.tells_output (r.quiet.passes.tells_output ∙ output)
            (subst (λ (t : Triple). IsLeft (first_state it) (all_lines input) mid.view.tells_output t.output c) r.quiet.shown left))
            (input_left kind (first_state it) input budget before.left left.left stop mid now is r.allows (r.quiet.passes.honest ∙ settled.honest) (r.quiet.passes.tells_bytes ∙ settled.tells_bytes)))

        nothing_more : StaysStill now.view new → EachSince Stops old new
        nothing_more still =
            each_on old now.view new Stops passes still.quiet.passes so_far (each_quiet now.view new Stops (passes.honest ∙ settled.honest) still.quiet (each_now old now.view Stops passes so_far))

        module _ (all : AreReached kind (first_state it) (all_lines input) true None mid now) where
          -- the last piece is put on the store after all lines
          put_applied : (piece : List ℕ) → lost_piece lost ≡ Some piece → StopsBy (PutsFront piece) now.view new → EachSince Stops now.view new
          put_applied piece is_last steps =
              each_step now.view new (PutsFront piece) (IsShown now.view.shown) Stops honest (λ d may. (still.a d may, still.b d may, passes.timed.output honest (passes.tells_output ∙ output) d may)) follows_put steps
            where
              honest : IsTrue now.view.honest
              honest = passes.honest ∙ settled.honest

              told : List (List ℕ)
              told = verdicts (saved_in it) all.until

              holds : HoldsStore (outcome_of_all (first_state it) all.until).state now.view
              holds = all.reached.holds refl

              still : IsSettled now.view
              still = holds.stands.settled honest (passes.tells_bytes ∙ settled.tells_bytes)

              shown : now.view.shown.output ≡ old.shown.output ++ concat (verdicts (saved_in it) all.until)
              shown =
                  shown_added mid.view now.view (concat (outcome_of_all (first_state it) all.until).pieces) (r.quiet.passes.tells_output ∙ output) (passes.tells_output ∙ output) all.reached.put.output
                  ∙ ap (λ (t : Triple). t.output ++ concat (outcome_of_all (first_state it) all.until).pieces) r.quiet.shown ∙ ap (λ (pieces : List (List ℕ)). old.shown.output ++ concat pieces) (follows all.until)

              follows_put : (d c : Triple) → IsShown now.view.shown d → PutsFront piece d c → Stops c
              follows_put d c is put =
                  let on = saves_on_same (saved_in it) (after (saved_in it) all.until) old.shown now.view.shown c (put.a ∙ is.0) (put.b ∙ is.1) (stands_on all.until holds) in
                  applied_at it r.opened.limits r.opened.schema old.shown chosen input lost c all.until all.later put.front (after (saved_in it) all.until) all.parts
                  (put.added ∙ ap (λ (o : List ℕ). o ++ put.front) (is.2 ∙ shown) ∙ append_assoc old.shown.output (concat (verdicts (saved_in it) all.until)) put.front) on
                  (inr (inr (record { all = all.whole refl; back = put.back; piece = ap pieces_in is_last ∙ ap (λ (p : List ℕ). p ∷ []) put.parts; saves = on.saves })))

          behind_lines : (piece : Option (List ℕ)) (status : Status) → lost_piece lost ≡ piece → EndsRun piece status now.view result new → EachSince Stops old new
          behind_lines None status is ends = nothing_more ends.1
          behind_lines (Some piece) status is (inl memory) = nothing_more memory.1
          behind_lines (Some piece) status is (inr put) = each_on old now.view new Stops passes put.areas.passes so_far (put_applied piece is put.stops)

        done_stops : (status : Status) → AreReached kind (first_state it) (all_lines input) true (Some (stops.Ended status)) mid now → EndsRun (lost_piece lost) status now.view result new → EachSince Stops old new
        done_stops status all =
            behind_lines (record { until = all.until; later = all.later; parts = all.parts; whole = all.whole; reached = record { holds = all.reached.holds; put = all.reached.put; given = all.reached.given; delivered = all.reached.delivered } }) (lost_piece lost) status refl

        applied : EachSince Stops old new
        applied =
            by_stop (λ (x : Stop Status). AreReached kind (first_state it) (all_lines input) (is_done (status_at x)) (Some x) mid now → Last x → EachSince Stops old new) budget before.left left.left
            (λ end. done_stops Accepted) (λ end. done_stops Refused) (λ bytes taken full reached last. nothing_more last.1) (λ reached last. nothing_more last.1) (λ reached last. nothing_more last.1)
            (λ reached last. nothing_more last.1) (λ reached last. nothing_more last.1) stop r.by went r.last

  -- the store that is known to be saved is the one that was opened
  same : (known : SavedStore) → Saves known old.shown → IsTrue old.tells_bytes → saved_in it ≡ known
  same known saves tells = same_store it.guard known old.shown saves (r.opened.saves tells) r.opened.schema

  leaves : LeavesApplied before.left lost old new
  leaves = record {
    passes = passes_on old now.view new passes kept.passes;
    stops = λ input known is saves output settled.
        subst (λ (store : SavedStore). EachSince (IsAppliedAt old.shown store input lost) old new) (same known saves settled.tells_bytes) (applied settled.tells_bytes input is output settled);
    grows = λ known saves settled. subst (λ (store : SavedStore). EachSince (IsGrown store old.shown) old new) (same known saves settled.tells_bytes) (grows settled.tells_bytes settled);
    unsaved = λ tells none. absurd (none (saved_in it) (here tells));
    beside = beside;
  }

  feeds : FeedsApplied before.left old new (kind.places mid.kept) (kind.places now.kept) result
  feeds = record {
    decided = λ tells input known is saves. subst (λ (store : SavedStore). IsDecided store input lost old new (kind.places mid.kept) (kind.places now.kept) result) (same known saves tells) (decided tells input is);
    unsaved = λ tells none. absurd (none (saved_in it) (here tells));
  }

  ends : (input : List ℕ) → IsTrue old.tells_bytes → before.left ≡ Some input → EndsAs (λ n. told_apply input (areas_of old) n lost) (shown_of old) input budget left.left result (shown_of new)
  ends input tells is =
      subst (λ (start : Shown). EndsAs (λ n. told_apply input (areas_of old) n lost) start input budget left.left result (shown_of new)) (shown_quiet old mid.view r.quiet r.no_put)
      (ends_last budget before.left left.left lost stop now.view new result r.by r.last (shown_of mid.view) input (told_by applying text_limit (first_state it) input) (λ n. told_lines input n (saved_in it))
      (λ n. told_apply input (areas_of old) n lost) is (told_by_applying it input) (λ n. told_opened it old mid.view input n lost r.opened tells) (told_cut (saved_in it) input) (r.ends input is))

  promised_on : Promise apply_spec budget (record { source = before; view = old; places = kind.places mid.kept }) (record { source = left; view = new; places = kind.places now.kept }) result
  promised_on =
      promise_reading apply_spec budget (record { source = before; view = old; places = kind.places mid.kept }) (record { source = left; view = new; places = kind.places now.kept }) result refl
      (record {
        choice = tt;
        right = tt;
        ends = λ input knows is. ends input (knows.bytes tt) is;
        takes = λ input rest is left_is. takes_last budget before.left left.left lost stop now.view new result r.by r.last input rest is left_is ((r.ends input is).within rest left_is);
        full = is_full budget before.left left.left lost stop now.view new result r.by r.last;
        in_vain = ⊎_elim (λ refusal. absurd (unrefused budget before.left left.left lost stop now.view new result r.by r.last refusal)) (λ none. absurd (none.1 (saved_in it) (here none.0)));
        read_to_end = is_read budget before.left left.left lost stop now.view new result r.by r.last;
        may_end = may_end budget before.left left.left lost stop now.view new result r.by r.last;
        cause = ended_cause budget before.left left.left lost stop now.view new result r.by (faults_of before.faults old) left.faults
            (subst (λ (f : Faults). HasStopCause f (faults_of left.faults now.view) stop) (same_faults before.faults old mid.view r.areas r.no_put.put_faults) r.cause) r.last;
        leaves = leaves;
        settles = settles;
        feeds = feeds;
      })

  -- ---- what feeds were given

  abbrev reached : AreReached kind (first_state it) (seen r.allows.lines r.allows.extent) (is_done (status_at stop)) (Some stop) mid now
  reached = reached_at kind (first_state it) budget left.left r.allows.bytes r.allows.lines r.allows.later stop r.allows.extent mid now r.allows.far r.allows.allowed.reached

  abbrev given : List Delivery
  given = behind mid.view.puts (outcome_of_all (first_state it) reached.until).given

  -- by some lines that come to the same
  given_by : (lines : List (List ℕ)) → outcome_of_all (first_state it) reached.until ≡ outcome_of_all (first_state it) lines → given ≡ behind old.puts (deliveries (verdict it.guard.schema) (start (saved_in it)) lines)
  given_by lines alike =
      ap (λ (o : Outcome). behind mid.view.puts o.given) alike ∙ ap (λ (ds : List Delivery). behind mid.view.puts ds) (told_follows it lines).given
      ∙ ap (λ (n : ℕ). behind n (deliveries (verdict it.guard.schema) (start (saved_in it)) lines)) r.no_put.puts

  gives_decided : (tells : IsTrue old.tells_bytes) (input : List ℕ) → before.left ≡ Some input → IsGivenBy (saved_in it) input lost old new result given
  gives_decided tells input is = record {
    until = (went tells input is).until;
    later = (went tells input is).later;
    parts = (went tells input is).parts;
    put = put_went tells input is;
    is = given_by (went tells input is).until (input_went kind (first_state it) input budget before.left left.left stop mid now is r.allows).same;
  }

  gives_on : Gives apply_spec kind (record { source = before; view = old; places = kind.places mid.kept }) (record { source = left; view = new; places = kind.places now.kept }) mid.kept now.kept result
  gives_on = record {
    deliveries = given;
    right = record {
      decided = λ tells input known is saves. subst (λ (store : SavedStore). IsGivenBy store input lost old new result given) (same known saves tells) (gives_decided tells input is);
      unsaved = λ tells none. absurd (none (saved_in it) (here tells));
      before = inr (record { it = saved_in it; lines = reached.until; is = given_by reached.until refl });
    };
    made = reached.reached.delivered;
  }

-- in the state of the taker, and by its list of feeds
module _ (kind : ListKind) (it : StoreState) (s : ApplyState) (budget : ℕ) (before left : SourceState) (stop : Stop Status) (result : Status) (old : View) (mid now : Scene kind.Feeds) (new : View) (feeds fed : kind.Feeds)
    (first : s ≡ first_state it) (was_is : mid.kept ≡ feeds) (now_is : now.kept ≡ fed) (ran : RunsOn kind it s budget before left stop result old mid now new) where
  abbrev from : kind.Feeds → Setting
  from list = record { source = before; view = old; places = kind.places list }

  abbrev to : kind.Feeds → Setting
  to list = record { source = left; view = new; places = kind.places list }

  ran_first : RunsOn kind it (first_state it) budget before left stop result old mid now new
  ran_first = subst (λ (t : ApplyState). RunsOn kind it t budget before left stop result old mid now new) first ran

  pub promised : Promise apply_spec budget (from feeds) (to fed) result
  promised =
      subst (λ (p : kind.Feeds). Promise apply_spec budget (from p) (to fed) result) was_is
      (subst (λ (p : kind.Feeds). Promise apply_spec budget (from mid.kept) (to p) result) now_is (promised_on kind it budget before left stop result old mid now new ran_first))

  pub gives : Gives apply_spec kind (from feeds) (to fed) feeds fed result
  gives =
      subst (λ (p : kind.Feeds). Gives apply_spec kind (from p) (to fed) p fed result) was_is
      (subst (λ (p : kind.Feeds). Gives apply_spec kind (from mid.kept) (to p) mid.kept p result) now_is (gives_on kind it budget before left stop result old mid now new ran_first))

-- the same status, and the same number of lost feeds
pub last_as : (lost same : ℕ) (status at : Status) (old new : View) (result : Status) → lost ≡ same → status ≡ at → EndsRun (last_piece status lost) status old result new → EndsRun (last_piece at same) at old result new
last_as lost same status at old new result lost_is is ends =
    subst (λ (n : ℕ). EndsRun (last_piece at n) at old result new) lost_is (subst (λ (s : Status). EndsRun (last_piece s lost) s old result new) is ends)
