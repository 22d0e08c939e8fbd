-- What the loading of a text does, by what its calls did.
use Rattle.std.proofs.Common.{◌≡◌, inl, inr, ℕ, true, IsTrue, List, [], ◌++◌, Some, Ok, Err, refl, sym, ap, ap₂, subst, ◌∙◌}
use Rattle.pgs_answer.specs.Lines.{schema_refused_line, store_refused_line}
use Rattle.pgs_answer.specs.Refusals.{already_store_text}
use Rattle.pgs_resolve.specs.SchemaOf.{schema, schema_of}
use Rattle.pgs_run_lines.specs.Machine.{Told}
use Rattle.pgs_run_lines.specs.Pieces.{Shown, ShowsAll, shown_of}
use Rattle.pgs_run_lines.specs.Replies.{EndsLast, EndsReply, PutsReply}
use Rattle.pgs_snapshot.specs.Choice.{Choice, choice_of, no_store}
use Rattle.pgs_snapshot.specs.Choice as choices
use Rattle.pgs_snapshot.specs.Saved.{saved}
use Rattle.pgs_store.specs.Loads.{FindsNone, IsLoaded, IsStore}
use Rattle.pgs_store.specs.State.{GuardState}
use Rattle.pgs_store.specs.Stored.{IsLoadedIn, IsSavedIn, StoreState, first_journal}
use Rattle.pgs_store.specs.World.{CountsFault, StaysBeside}
use Rattle.pgs_syntax.specs.declared.resolved.Resolved.{Resolved}
use Rattle.pgs_world.specs.declared.area.Area.TheVariants.{A, B}
use Rattle.pgs_world.specs.Moment.{EachSince, IsQuiet, IsSettled, IsTimed}
use Rattle.pgs_world.specs.World.{View}
use Rattle.pgs_world.proofs.Moments.{each_now, each_on, each_quiet, each_weaker, passes_on, quiet_now, settled_quiet}
use Rattle.pgs_command.specs.declared.status.Status.{Status}
use Rattle.pgs_command.specs.declared.status.Status.TheVariants.{Accepted, SchemaRefused, StoreRefused, DiskFault, PutFault, Memory}
use Rattle.pgs_command.specs.Answers.{IsOfCommand}
use Rattle.pgs_command.specs.Areas.{Areas, areas_of}
use Rattle.pgs_command.specs.Images.{IsUnwritten, KeepsArea, KeepsImages}
use Rattle.pgs_command.proofs.Images.{area_beside, area_of_images, area_on, each_images, images_areas, images_on, images_quiet, settled_images}
use Rattle.pgs_command.proofs.Replied.{IsOwn, by_last}
use Rattle.pgs_run_input.specs.Answers.{schema_answer}
use Rattle.pgs_run_input.specs.Session.{standard}
use Rattle.pgs_run_input.proofs.Answering.{answer_ok}
use Rattle.pgs_run_input.proofs.OneLine.{IsSilent, PutsLine, answers_failed, answers_line, answers_none, line_of_reply, same_shown, told_line}
use Rattle.pgs_run_store.specs.Refusing.{store_refused, told_under}
use Rattle.pgs_run_store.specs.Spec.{IsUnput}
use Rattle.pgs_run_renewal.specs.LoadLeaving.{LoadsText}
use Rattle.pgs_run_renewal.specs.Loading.{IsLoading, IsLoadingAt, IsMade, IsNewStore, TellsFor}
use Rattle.pgs_run_renewal.specs.LoadTold.{line_of, told_choice, told_text}
use Rattle.pgs_run_renewal.proofs.LoadUnmoved.{starts_at, starts_empty}
use Rattle.pgs_run_renewal.proofs.LoadLeaving.{leaves_kept, leaves_quiet}
use Rattle.pgs_run_renewal.proofs.Stops.{loading_at, loading_in, new_store, same_loading, same_new}

told_schema : (text : List ℕ) (areas : Areas) (resolved : Resolved) (choice : Choice) → schema_answer text ≡ Ok resolved → choice_of areas.a areas.b ≡ choice → told_text text areas ≡ told_choice resolved choice
told_schema text areas resolved choice is found =
    ap (λ answer. told_under answer (λ s. told_choice s (choice_of areas.a areas.b))) is ∙ ap (told_choice resolved) found

-- ---- nothing was written

-- for want of memory
pub loads_none : (text : List ℕ) (old new : View) → IsTimed old → IsQuiet old new → IsSilent old new → LoadsText text old new Memory
loads_none text old new timed quiet silent = record {
  told = told_text text (areas_of old);
  is_told = λ tells. refl;
  answers = answers_none (told_text text (areas_of old)) old new silent;
  leaves = leaves_quiet (Some text) old new Memory timed quiet silent.shown (λ input made. made);
  settles = λ settled no. settled_quiet old new settled quiet;
}

-- a refusal: its line is told, and the text isn't loaded
pub record Refuses (text line : List ℕ) (status : Status) (old : View) : Type 0 where
  pub own : IsOwn true status
  pub may_end : IsOfCommand status
  pub unmade : (text : List ℕ) → IsMade text status → ⊥
  pub said : IsUnput status → ⊥
  pub told : TellsFor text old → told_text text (areas_of old) ≡ told_line line status
  pub unfit : FindsNone old → IsTrue old.tells_bytes → (resolved : Resolved) → schema_answer text ≡ Ok resolved → ⊥

pub refuses_text : (text why : List ℕ) (old : View) → schema_answer text ≡ Err why → Refuses text (schema_refused_line why) SchemaRefused old
refuses_text text why old is = record {
  own = tt;
  may_end = tt;
  unmade = λ text made. made;
  said = λ no. no;
  told = λ tells. ap (λ answer. told_under answer (λ s. told_choice s (choice_of old.shown.a old.shown.b))) is;
  unfit = λ free tells resolved good. let no : Ok resolved ≡ Err why = sym good ∙ is in cc;
}

told_store : (resolved : Resolved) (choice : Choice) → IsStore choice → told_choice resolved choice ≡ store_refused already_store_text
told_store resolved (choices.chosen area epoch end next payloads) is = refl
told_store resolved (choices.damaged area epoch number) is = refl
told_store resolved choices.no_store is = absurd is
told_store resolved choices.foreign is = absurd is

-- an area is a store, or another program's file
pub refuses_areas : (text why : List ℕ) (resolved : Resolved) (old : View) → schema_of text ≡ schema resolved
    → (IsTrue old.tells_bytes → told_choice resolved (choice_of old.shown.a old.shown.b) ≡ store_refused why) → Refuses text (store_refused_line why) StoreRefused old
refuses_areas text why resolved old of_text refused = record {
  own = refl;
  may_end = tt;
  unmade = λ text made. made;
  said = λ no. no;
  told = λ tells.
      let is = answer_ok text resolved of_text in
      told_schema text (areas_of old) resolved (choice_of old.shown.a old.shown.b) is refl ∙ refused (tells resolved is);
  unfit = λ free tells other good.
      let same : told_choice resolved no_store ≡ store_refused why = ap (told_choice resolved) (sym (free tells)) ∙ refused tells in
      let no : Accepted ≡ StoreRefused = ap (λ (t : Told Status). t.status) same in cc;
}

pub found_store : (resolved : Resolved) (old : View) → (IsTrue old.tells_bytes → IsStore (choice_of old.shown.a old.shown.b)) → IsTrue old.tells_bytes
    → told_choice resolved (choice_of old.shown.a old.shown.b) ≡ store_refused already_store_text
found_store resolved old found tells = told_store resolved (choice_of old.shown.a old.shown.b) (found tells)

-- the areas were only read, and then the line of a refusal was put, or there was no memory for it
pub loads_refused : (text line : List ℕ) (status result : Status) (old mid new : View) → IsTimed old → IsQuiet old mid → IsSilent old mid → Refuses text line status old → PutsLine line status mid result new → LoadsText text old new result
loads_refused text line status result old mid new timed quiet silent refuses put = record {
  told = told_line line status;
  is_told = refuses.told;
  answers = answers_line (told_line line status) line status result old mid new silent refuses.own refuses.may_end refl put;
  leaves = leaves_kept (Some text) old new result kept
      (λ input is free tells settled.
      let P = IsLoadingAt old.shown input in
      each_on old mid new P quiet.passes put.areas.passes (each_quiet old mid P settled.honest quiet (starts_at old input timed free tells settled)) (putting input (same input is) free tells settled))
      (λ input is free tells.
      by_last (λ (s : Status). IsMade input s → ⊥) line status result mid new (refuses.unmade input)
      (λ made. unfit input (same input is) free tells made.0 made.1) (λ made. made) put.ends)
      (λ is. subst (λ (start : Shown). ShowsAll start [] (shown_of new)) silent.shown (unput put.ends is));
  settles = λ settled no. settled_images old new settled kept;
}
  where
    kept : KeepsImages old new
    kept = images_on old mid new (images_quiet old mid quiet) (images_areas mid new put.areas)

    unput : EndsLast line status PutFault Memory mid result new → IsUnput result → ShowsAll (shown_of mid) [] (shown_of new)
    unput (inl (inl whole)) is = absurd (refuses.said (subst IsUnput whole.0 is))
    unput (inl (inr torn)) is = absurd (subst IsUnput torn.0 is)
    unput (inr none) is = none.1

    same : (input : List ℕ) → Some text ≡ Some input → input ≡ text
    same input is = cc

    unfit : (input : List ℕ) → input ≡ text → FindsNone old → IsTrue old.tells_bytes → (resolved : Resolved) → schema_answer input ≡ Ok resolved → ⊥
    unfit input is free tells resolved good = refuses.unfit free tells resolved (ap schema_answer (sym is) ∙ good)

    putting : (input : List ℕ) → input ≡ text → FindsNone old → IsTrue old.tells_output → IsSettled old → EachSince (IsLoadingAt old.shown input) mid new
    putting input is free tells settled c left =
        let from = put.stops (quiet.passes.honest ∙ settled.honest) c left in
        let may = quiet_now old mid quiet settled.honest from.0 from.1 in
        record {
          front = from.2.front;
          out = from.2.added ∙ ap (λ output. output ++ from.2.front) (timed.output settled.honest tells from.0 may);
          state = inl (ap₂ (saved standard) from.2.a from.2.b ∙ starts_empty old free settled from.0 may);
          loaded = λ resolved good said. absurd (unfit input is free settled.tells_bytes resolved good);
        }

-- ---- area A was written

module _ (text : List ℕ) (resolved : Resolved) (of_text : schema_of text ≡ schema resolved) (old mid : View) (timed : IsTimed old) (free_kept : (FindsNone old → ⊥) → IsQuiet old mid)
    (each : FindsNone old → IsSettled old → EachSince (IsLoadedIn standard text) old mid) (beside : StaysBeside A old mid) where
  shown : shown_of mid ≡ shown_of old
  shown = same_shown old mid beside.passes.tells_output beside.shown.output beside.no_put

  other_area : KeepsArea B old mid
  other_area = area_beside A old mid beside.passes beside.shown beside.stops

  no_refusal : (input why : List ℕ) → Some text ≡ Some input → schema_answer input ≡ Err why → ⊥
  no_refusal input why is refused =
      let same : input ≡ text = cc in
      let never : Ok resolved ≡ Err why = sym (answer_ok text resolved of_text) ∙ ap schema_answer (sym same) ∙ refused in cc

  during : IsTrue old.tells_output → FindsNone old → IsSettled old → EachSince (IsLoadingAt old.shown text) old mid
  during tells free settled c left =
      let from = beside.stops settled.honest c left in
      loading_at old.shown c text (from.2.output ∙ timed.output settled.honest tells from.0 from.1) (each free settled c left)

  grows : FindsNone old → IsSettled old → EachSince IsLoading old mid
  grows free settled = each_weaker old mid (IsLoadedIn standard text) IsLoading (loading_in text) (each free settled)

  -- an area failed
  pub loads_failed : CountsFault true old mid → LoadsText text old mid DiskFault
  loads_failed rose = record {
    told = told_text text (areas_of old);
    is_told = λ tells. refl;
    answers = answers_failed (told_text text (areas_of old)) old mid shown rose beside.no_put.put_faults;
    leaves = record {
      passes = beside.passes;
      stops = λ input is free tells settled.
          let same : text ≡ input = cc in
          subst (λ (t : List ℕ). EachSince (IsLoadingAt old.shown t) old mid) same (during tells free settled);
      grows = grows;
      occupied = λ taken. images_quiet old mid (free_kept taken);
      refused = λ input why is no. absurd (no_refusal input why is no);
      unwritten = λ no. absurd no;
      beside = other_area;
      made = λ tells input is free made. absurd made;
      unput = λ is. absurd is;
    };
    settles = λ settled no. absurd (no refl);
  }

  -- the store was made, and then its line was put
  module _ (store : StoreState) (made : IsLoaded standard text store old mid) (areas_same : mid.area_faults ≡ old.area_faults) (new : View) (result : Status)
      (put : PutsReply (line_of store.guard.schema) Accepted PutFault mid result new) where
    kept : KeepsImages mid new
    kept = images_areas mid new put.areas

    told_made : IsTrue old.tells_bytes → told_text text (areas_of old) ≡ told_line (line_of store.guard.schema) Accepted
    told_made tells =
        told_schema text (areas_of old) made.resolved no_store (answer_ok text made.resolved made.of_text) (made.free tells)
        ∙ ap (λ (g : GuardState). told_line (line_of g.schema) Accepted) (sym made.guard)

    there : IsTrue old.tells_bytes → IsNewStore text mid.shown
    there tells =
        new_store store.guard.seed text made.resolved store.journal.end mid.shown
        (subst (λ (g : GuardState). IsSavedIn g (first_journal store.journal.end) mid.shown) made.guard
        (subst (λ j. IsSavedIn store.guard j mid.shown) made.journal (made.stands.saved (beside.passes.tells_bytes ∙ tells))))

    settled_mid : IsSettled old → IsSettled mid
    settled_mid settled = made.stands.settled (beside.passes.honest ∙ settled.honest) (beside.passes.tells_bytes ∙ settled.tells_bytes)

    putting : IsTrue old.tells_output → IsSettled old → EachSince (IsLoadingAt old.shown text) mid new
    putting tells settled c left =
        let stands = settled_mid settled in
        let from = put.stops stands.honest c left in
        let saves = same_new text mid.shown c (from.2.a ∙ stands.a from.0 from.1) (from.2.b ∙ stands.b from.0 from.1) (there settled.tells_bytes) in
        record {
          front = from.2.front;
          out = from.2.added
              ∙ ap (λ output. output ++ from.2.front) (beside.passes.timed.output stands.honest (beside.passes.tells_output ∙ tells) from.0 from.1 ∙ beside.shown.output);
          state = inr saves;
          loaded = λ schema is said. saves;
        }

    written : EndsReply (line_of store.guard.schema) Accepted PutFault mid result new → IsUnwritten result → ⊥
    written (inl whole) is = subst IsUnwritten whole.0 is
    written (inr torn) is = subst IsUnwritten torn.0 is

    said : EndsReply (line_of store.guard.schema) Accepted PutFault mid result new → IsUnput result → ⊥
    said (inl whole) is = subst IsUnput whole.0 is
    said (inr torn) is = subst IsUnput torn.0 is

    pub loads_made : LoadsText text old new result
    loads_made = record {
      told = told_line (line_of store.guard.schema) Accepted;
      is_told = λ tells. told_made (tells resolved (answer_ok text resolved of_text));
      answers = answers_line (told_line (line_of store.guard.schema) Accepted) (line_of store.guard.schema) Accepted result old mid new
          (record { shown = shown; area_faults = areas_same; put_faults = beside.no_put.put_faults }) tt tt refl (line_of_reply (line_of store.guard.schema) Accepted mid result new put);
      leaves = record {
        passes = passes_on old mid new beside.passes put.areas.passes;
        stops = λ input is free tells settled.
            let same : text ≡ input = cc in
            subst (λ (t : List ℕ). EachSince (IsLoadingAt old.shown t) old new) same
            (each_on old mid new (IsLoadingAt old.shown text) beside.passes put.areas.passes (during tells free settled) (putting tells settled));
        grows = λ free settled.
            each_on old mid new IsLoading beside.passes put.areas.passes (grows free settled)
            (each_images mid new IsLoading (beside.passes.honest ∙ settled.honest) same_loading kept (each_now old mid IsLoading beside.passes (grows free settled)));
        occupied = λ taken. images_on old mid new (images_quiet old mid (free_kept taken)) kept;
        refused = λ input why is no. absurd (no_refusal input why is no);
        unwritten = λ is. absurd (written put.ends is);
        beside = area_on B old mid new other_area (area_of_images B mid new kept);
        made = λ tells input is free made.
            let same : text ≡ input = cc in
            subst (λ (t : List ℕ). IsNewStore t new.shown) same (same_new text mid.shown new.shown kept.a kept.b (there tells));
        unput = λ is. absurd (said put.ends is);
      };
      settles = λ settled no. settled_images mid new (settled_mid settled) kept;
    }
