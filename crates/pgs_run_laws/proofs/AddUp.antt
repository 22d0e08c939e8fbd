-- Runs add up: what each leaves is what the next one begins with.
use Rattle.std.proofs.Common.{◌≡◌, ◌⊎◌, inl, inr, ⊎_elim, ℕ, ◌+◌, ◌^◌, ◌==◌, Bool, true, false, nat_le, IsTrue, List, [], ◌∷◌, ◌++◌, length, Option, Some, None, Result, Ok, Err, refl, sym, ap, ap₂, subst, ◌∙◌}
use Rattle.std.proofs.lemmas.List.{append-nil}
use Rattle.pgs_answer.specs.Lines.{checkpoint_line}
use Rattle.pgs_run_lines.specs.Machine.{Told}
use Rattle.pgs_run_lines.specs.Pieces.{Shown, ShowsAll, shown_of}
use Rattle.pgs_run_lines.proofs.Showing.{shows_none, shows_on}
use Rattle.pgs_base.specs.Graph.{Graph}
use Rattle.pgs_snapshot.specs.Choice.{choice_of, chosen_epoch, chosen_next, epoch_chosen, no_store}
use Rattle.pgs_snapshot.specs.Saved.{SavedState, saved, store}
use Rattle.pgs_store.specs.Loads.{FindsNone}
use Rattle.pgs_syntax.specs.declared.resolved.Resolved.{Resolved}
use Rattle.pgs_violation.specs.declared.violation.Verdict.{Verdict}
use Rattle.pgs_violation.specs.declared.violation.Verdict.TheVariants.{Conforms, Refused as Violated}
use Rattle.pgs_violation.specs.Violations.{verdict}
use Rattle.pgs_run_words.specs.declared.command.Command.{Command}
use Rattle.pgs_run_words.specs.declared.command.Command.TheVariants.{Load, Apply, Recover, Checkpoint, Evolve}
use Rattle.pgs_world.specs.World.{View}
use Rattle.pgs_command.specs.declared.status.Status.{Status}
use Rattle.pgs_command.specs.declared.status.Status.TheVariants.{Accepted, Refused, SchemaRefused, StoreRefused, DiskFault, Memory, InputTooLong}
use Rattle.pgs_run_input.specs.Answers.{schema_answer}
use Rattle.pgs_command.specs.Areas.{Areas, areas_of}
use Rattle.pgs_command.specs.Ending.{Ends}
use Rattle.pgs_command.specs.Images.{IsUnwritten}
use Rattle.pgs_run_input.specs.Session.{standard}
use Rattle.pgs_run_apply.specs.Run.{Saves, IsDecided, IsPutBy}
use Rattle.pgs_run_apply.specs.Told.{after, verdicts, all_lines, lost_pieces}
use Rattle.pgs_run_renewal.specs.CheckpointTold.{told_by, told_checkpoint}
use Rattle.pgs_run_renewal.specs.EvolveLeaving.{LeavesEvolved}
use Rattle.pgs_run_renewal.specs.EvolveLeaving.{IsMade as MadeAt}
use Rattle.pgs_run_renewal.specs.EvolveTold.{told_evolve, told_input, told_text, told_verdict}
use Rattle.pgs_run_renewal.specs.Loading.{IsMade}
use Rattle.pgs_run_renewal.specs.LoadTold.{line_of, told_choice, told_load}
use Rattle.pgs_run_store.specs.Dump.{dump, told_dump}
use Rattle.pgs_run_store.specs.Refusing.{SavedStore, told_of_areas, told_saved, told_under}
use Rattle.pgs_command.specs.Promise.{Knows, Promise, Runs}
use Rattle.pgs_command.specs.Setting.{Setting}
use Rattle.pgs_command.specs.Spec.{CommandSpec}
use Rattle.pgs_run.specs.Commands.{spec_named, spec_of}
use Rattle.pgs_run_laws.specs.Crashes.{Stands}
use Rattle.pgs_run_laws.specs.Sequence.{Applied, Deed, Does, DoAll, Evolved, Ran, Renewed, after_deed, after_deeds, epoch_after, new_store, told_deed, told_deeds, told_sequence, under_text, under_verdict}

-- ---- a run that ended with 0 or 1

abbrev IsDone : Status → Type 0
IsDone status = (status ≡ Accepted) ⊎ (status ≡ Refused)

-- all that is told was put, and the status is the one told
done_shows : (start now : Shown) (said : Told Status) (status : Status) → IsDone status → Ends start said status now → ShowsAll start said.pieces now × (said.status ≡ status)
done_shows start now said status (inl is) ends =
    let at = subst (λ (s : Status). Ends start said s now) is ends in (at.0, at.1 ∙ sym is)
done_shows start now said status (inr is) ends =
    let at = subst (λ (s : Status). Ends start said s now) is ends in (at.0, at.1 ∙ sym is)

-- what is told of a view that saves this store
pub told_stands : (view : View) (it : SavedStore) (go : SavedStore → Told Status) → Saves it view.shown → told_of_areas (areas_of view) go ≡ go it
unfolding told_of_areas
told_stands view it go known =
    ap (λ (s : SavedState). told_saved s go) known.saves
    ∙ ap (λ (a : Result Resolved (List ℕ)). told_under a (λ schema. go (record { text = it.text; schema = schema; commits = it.commits; graph = it.graph }))) known.schema

-- it was begun
begun : (spec : CommandSpec) (budget : ℕ) (old new : Setting) (status : Status) → IsDone status → Runs spec budget old new status → Promise spec budget old new status
begun spec budget old new status (inl is) (inl none) = absurd (let no : Accepted ≡ Memory = sym is ∙ none.memory in cc)
begun spec budget old new status (inr is) (inl none) = absurd (let no : Refused ≡ Memory = sym is ∙ none.memory in cc)
begun spec budget old new status done (inr kept) = kept

-- what is known of a run, by its command
module _ (command : Command) (input : List ℕ) (lost : ℕ) (old new : View) (ran : Ran command input lost old new) where
  abbrev before : Setting
  before = record { source = ran.source_before; view = old; places = ran.places_before }

  abbrev behind : Setting
  behind = record { source = ran.source_now; view = new; places = ran.places_now }

  pub promise : Promise (spec_of command) (2 ^ 40) before behind ran.status
  promise = begun (spec_of command) (2 ^ 40) before behind ran.status ran.done (subst (λ (c : Option Command). Runs (spec_named c) (2 ^ 40) before behind ran.status) ran.named ran.kept)

  abbrev pub said : Told Status
  said = (spec_of command).told promise.choice input (areas_of old) (2 ^ 40) lost

  pub shows : ((spec_of command).AsksAreas input → IsTrue old.tells_bytes) → ShowsAll (shown_of old) said.pieces (shown_of new) × (said.status ≡ ran.status)
  shows tells =
      let knows : Knows (spec_of command) before input = record { source = ran.source; bytes = tells } in
      done_shows (shown_of old) (shown_of new) said ran.status ran.done
      (subst (λ (n : ℕ). Ends (shown_of old) ((spec_of command).told promise.choice input (areas_of old) (2 ^ 40) n) ran.status (shown_of new)) ran.lost_is (promise.shown input knows))

  no_fault : ran.status ≡ DiskFault → ⊥
  no_fault is = ⊎_elim (λ (e : ran.status ≡ Accepted). let no : Accepted ≡ DiskFault = sym e ∙ is in cc) (λ (e : ran.status ≡ Refused). let no : Refused ≡ DiskFault = sym e ∙ is in cc) ran.done

-- ---- `load`

load_if : (cut : Bool) (input : List ℕ) (areas : Areas) (schema : Resolved) (status : Status) → nat_le (2 ^ 40) (length input) ≡ cut → schema_answer input ≡ Ok schema → choice_of areas.a areas.b ≡ no_store → IsDone status
    → (told_load input areas (2 ^ 40)).status ≡ status → told_load input areas (2 ^ 40) ≡ record { pieces = line_of schema ∷ []; status = Accepted }
unfolding told_load
load_if true input areas schema status e is free done same =
    let cut : InputTooLong ≡ status = rw e at same in
    absurd (⊎_elim (λ (d : status ≡ Accepted). let no : InputTooLong ≡ Accepted = cut ∙ d in cc) (λ (d : status ≡ Refused). let no : InputTooLong ≡ Refused = cut ∙ d in cc) done)
load_if false input areas schema status e is free done same =
    rw e (ap (λ (a : Result Resolved (List ℕ)). told_under a (λ s. told_choice s (choice_of areas.a areas.b))) is ∙ ap (told_choice schema) free)

-- what a first run leads to
record Leads (it : SavedStore) (epoch : ℕ) (pieces : List (List ℕ)) (old new : View) : Type 0 where
  pub stands : Stands it epoch new
  pub shown : ShowsAll (shown_of old) pieces (shown_of new)

loads : (text : List ℕ) (schema : Resolved) (lost : ℕ) (old new : View) → IsTrue old.tells_bytes → FindsNone old → schema_answer text ≡ Ok schema → Ran Load text lost old new → Leads (new_store text schema) 1 (line_of schema ∷ []) old new
loads text schema lost old new tells free is ran =
    let done = shows Load text lost old new ran (λ asks. tells) in
    let told = load_if (nat_le (2 ^ 40) (length text)) text (areas_of old) schema ran.status refl is (free tells) ran.done done.1 in
    let accepted : ran.status ≡ Accepted = sym done.1 ∙ ap (λ (t : Told Status). t.status) told in
    let leaves = (promise Load text lost old new ran).leaves in
    let made = leaves.made tells text (ran.source refl) free (subst (IsMade text) (sym accepted) tt) in
    record {
      stands = record {
        saves = record { saves = made.saves; schema = is };
        epoch_is = made.epoch;
        tells = leaves.passes.tells_bytes ∙ tells;
      };
      shown = subst (λ (t : Told Status). ShowsAll (shown_of old) t.pieces (shown_of new)) told done.0;
    }

-- ---- `apply`

put_all : (it : SavedStore) (input : List ℕ) (until later : List (List ℕ)) (lost : ℕ) (start now : Shown) (status : Status) → all_lines input ≡ until ++ later → IsDone status → IsPutBy it until later lost start now status
    → (until ≡ all_lines input) × ShowsAll start (verdicts it (all_lines input) ++ lost_pieces lost) now
put_all it input until later lost start now status parts (inl is) put =
    let at = subst (λ (s : Status). IsPutBy it until later lost start now s) is put in
    let same : until ≡ all_lines input = sym (append-nil until) ∙ ap (λ (xs : List (List ℕ)). until ++ xs) (sym at.0) ∙ sym parts in
    (same, subst (λ (xs : List (List ℕ)). ShowsAll start (verdicts it xs ++ lost_pieces lost) now) same at.1)
put_all it input until later lost start now status parts (inr is) put =
    let at = subst (λ (s : Status). IsPutBy it until later lost start now s) is put in
    let same : until ≡ all_lines input = sym (append-nil until) ∙ ap (λ (xs : List (List ℕ)). until ++ xs) (sym at.0) ∙ sym parts in
    (same, subst (λ (xs : List (List ℕ)). ShowsAll start (verdicts it xs ++ lost_pieces lost) now) same at.1)

applies : (it : SavedStore) (epoch : ℕ) (input : List ℕ) (lost : ℕ) (old new : View) → Stands it epoch old → Ran Apply input lost old new → Leads (after_deed it (Applied input lost)) epoch (told_deed it epoch (Applied input lost)) old new
applies it epoch input lost old new stands ran =
    let leaves = (promise Apply input lost old new ran).leaves in
    let fed_by = (promise Apply input lost old new ran).feeds in
    let decided =
    subst (λ (n : ℕ). IsDecided it input n old new ran.places_before ran.places_now ran.status) ran.lost_is
    (fed_by.decided stands.tells input it (ran.source refl) stands.saves) in
    let put = put_all it input decided.until decided.later lost (shown_of old) (shown_of new) ran.status decided.parts ran.done decided.put in
    let saves = decided.saves (no_fault Apply input lost old new ran) in
    record {
      stands = record {
        saves = record {
          saves = saves.saves.saves ∙ ap (λ (xs : List (List ℕ)). store it.text (after it xs).commits (after it xs).graph) put.0;
          schema = stands.saves.schema;
        };
        epoch_is = saves.epoch ∙ stands.epoch_is;
        tells = leaves.passes.tells_bytes ∙ stands.tells;
      };
      shown = put.1;
    }

-- ---- `checkpoint`

renewed_if : (last : Bool) (epoch : ℕ) (it : SavedStore) (status : Status) → (epoch == 16777215) ≡ last → IsDone status → (told_by (Some epoch) it).status ≡ status
    → told_by (Some epoch) it ≡ record { pieces = checkpoint_line (epoch + 1) it.commits ∷ []; status = Accepted }
renewed_if true epoch it status e done same =
    let refused : StoreRefused ≡ status = rw e at same in
    absurd (⊎_elim (λ (d : status ≡ Accepted). let no : StoreRefused ≡ Accepted = refused ∙ d in cc) (λ (d : status ≡ Refused). let no : StoreRefused ≡ Refused = refused ∙ d in cc) done)
renewed_if false epoch it status e done same = rw e refl

pub same_epoch : (x y : ℕ) → Some x ≡ Some y → x ≡ y
same_epoch x y is = cc

pub told_renewed : (it : SavedStore) (epoch : ℕ) (old : View) → Stands it epoch old → told_checkpoint (areas_of old) ≡ told_by (Some epoch) it
unfolding told_checkpoint
told_renewed it epoch old stands =
    told_stands old it (told_by (chosen_epoch old.shown.a old.shown.b)) stands.saves ∙ ap (λ (e : Option ℕ). told_by e it) stands.epoch_is

renews : (it : SavedStore) (epoch : ℕ) (input : List ℕ) (lost : ℕ) (old new : View) → Stands it epoch old → Ran Checkpoint input lost old new → Leads it (epoch + 1) (told_deed it epoch Renewed) old new
renews it epoch input lost old new stands ran =
    let done = shows Checkpoint input lost old new ran (λ asks. stands.tells) in
    let is = told_renewed it epoch old stands in
    let told = renewed_if (epoch == 16777215) epoch it ran.status refl ran.done (ap (λ (t : Told Status). t.status) (sym is) ∙ done.1) in
    let all : told_checkpoint (areas_of old) ≡ record { pieces = checkpoint_line (epoch + 1) it.commits ∷ []; status = Accepted } = is ∙ told in
    let accepted : ran.status ≡ Accepted = sym done.1 ∙ ap (λ (t : Told Status). t.status) all in
    let leaves = (promise Checkpoint input lost old new ran).leaves in
    let new_epoch = leaves.renewed stands.tells accepted in
    record {
      stands = record {
        saves = record {
          saves = leaves.kept stands.tells (no_fault Checkpoint input lost old new ran) ∙ stands.saves.saves;
          schema = stands.saves.schema;
        };
        epoch_is = ap epoch_chosen new_epoch.choice
            ∙ ap (λ (n : ℕ). Some (n + 1)) (same_epoch new_epoch.epoch epoch (sym new_epoch.was_epoch ∙ stands.epoch_is));
        tells = leaves.passes.tells_bytes ∙ stands.tells;
      };
      shown = subst (λ (t : Told Status). ShowsAll (shown_of old) t.pieces (shown_of new)) all done.0;
    }

-- ---- `evolve`

-- a status that is neither 0 nor 1
never_done : (so status : Status) → (so ≡ Accepted → ⊥) → (so ≡ Refused → ⊥) → so ≡ status → IsDone status → ⊥
never_done so status not_accepted not_refused same (inl is) = not_accepted (same ∙ is)
never_done so status not_accepted not_refused same (inr is) = not_refused (same ∙ is)

too_long : (status : Status) → InputTooLong ≡ status → IsDone status → ⊥
too_long status same done = never_done InputTooLong status (λ e. let no : InputTooLong ≡ Accepted = e in cc) (λ e. let no : InputTooLong ≡ Refused = e in cc) same done

store_refused : (status : Status) → StoreRefused ≡ status → IsDone status → ⊥
store_refused status same done = never_done StoreRefused status (λ e. let no : StoreRefused ≡ Accepted = e in cc) (λ e. let no : StoreRefused ≡ Refused = e in cc) same done

schema_refused : (status : Status) → SchemaRefused ≡ status → IsDone status → ⊥
schema_refused status same done = never_done SchemaRefused status (λ e. let no : SchemaRefused ≡ Accepted = e in cc) (λ e. let no : SchemaRefused ≡ Refused = e in cc) same done

-- the input wasn't cut, and the store is of the second format
evolve_if : (cut : Bool) (next : Option ℕ) (input : List ℕ) (graph : Graph) (status : Status) → nat_le (2 ^ 40) (length input) ≡ cut → IsDone status → (told_input input (2 ^ 40) next graph).status ≡ status
    → told_input input (2 ^ 40) next graph ≡ told_text input graph
evolve_if true next input graph status e done same = absurd (too_long status (rw e at same) done)
evolve_if false None input graph status e done same = absurd (store_refused status (rw e at same) done)
evolve_if false (Some number) input graph status e done same = rw e refl

pub told_evolved : (it : SavedStore) (input : List ℕ) (old : View) → Saves it old.shown → told_evolve input (areas_of old) (2 ^ 40) ≡ told_input input (2 ^ 40) (chosen_next old.shown.a old.shown.b) it.graph
unfolding told_evolve
told_evolved it input old known = told_stands old it (λ (s : SavedStore). told_input input (2 ^ 40) (chosen_next old.shown.a old.shown.b) s.graph) known

module _ (it : SavedStore) (epoch : ℕ) (input : List ℕ) (lost : ℕ) (old new : View) (stands : Stands it epoch old) (ran : Ran Evolve input lost old new) where
  leaves : LeavesEvolved ran.source_before.left old new ran.status
  leaves = (promise Evolve input lost old new ran).leaves

  -- the schema is in force
  in_force : (schema : Resolved) → schema_answer input ≡ Ok schema → ran.status ≡ Accepted → Stands (record { text = input; schema = schema; commits = it.commits; graph = it.graph }) epoch new
  in_force schema is accepted =
      let next = chosen_next old.shown.a old.shown.b in
      let made = leaves.made stands.tells input it.text it.commits it.graph (ran.source refl) stands.saves.saves (subst (MadeAt next input it.graph) (sym accepted) tt) in
      record {
        saves = record { saves = made.under.saves; schema = is };
        epoch_is = made.under.epoch ∙ stands.epoch_is;
        tells = leaves.passes.tells_bytes ∙ stands.tells;
      }

  -- the graph has a violation under it
  as_it_was : ran.status ≡ Refused → Stands it epoch new
  as_it_was refused =
      let kept = leaves.unwritten (subst IsUnwritten (sym refused) tt) in
      record {
        saves = record { saves = ap₂ (saved standard) kept.a kept.b ∙ stands.saves.saves; schema = stands.saves.schema };
        epoch_is = ap₂ chosen_epoch kept.a kept.b ∙ stands.epoch_is;
        tells = leaves.passes.tells_bytes ∙ stands.tells;
      }

  by_verdict : (schema : Resolved) (found : Verdict) → schema_answer input ≡ Ok schema → (told_verdict schema found).status ≡ ran.status → Stands (under_verdict it input schema found) epoch new
  by_verdict schema Conforms is same = in_force schema is (sym same)
  by_verdict schema (Violated violation) is same = as_it_was (sym same)

  by_answer : (answer : Result Resolved (List ℕ)) → schema_answer input ≡ answer → (told_under answer (λ schema. told_verdict schema (verdict schema it.graph))).status ≡ ran.status → Stands (under_text it input answer) epoch new
  by_answer (Ok schema) is same = by_verdict schema (verdict schema it.graph) is same
  by_answer (Err text) is same = absurd (schema_refused ran.status same ran.done)

  evolves : Leads (after_deed it (Evolved input)) epoch (told_deed it epoch (Evolved input)) old new
  evolves =
      let done = shows Evolve input lost old new ran (λ asks. stands.tells) in
      let said = told_evolved it input old stands.saves in
      let told : told_evolve input (areas_of old) (2 ^ 40) ≡ told_text input it.graph = said
      ∙ evolve_if (nat_le (2 ^ 40) (length input)) (chosen_next old.shown.a old.shown.b) input it.graph ran.status refl ran.done
      (ap (λ (t : Told Status). t.status) (sym said) ∙ done.1) in
      record {
        stands = by_answer (schema_answer input) refl (ap (λ (t : Told Status). t.status) (sym told) ∙ done.1);
        shown = subst (λ (t : Told Status). ShowsAll (shown_of old) t.pieces (shown_of new)) told done.0;
      }

-- ---- one after another

does : (it : SavedStore) (epoch : ℕ) (deed : Deed) (old new : View) → Stands it epoch old → Does deed old new → Leads (after_deed it deed) (epoch_after epoch deed) (told_deed it epoch deed) old new
does it epoch (Applied input lost) old new stands ran = applies it epoch input lost old new stands ran
does it epoch Renewed old new stands ran = renews it epoch ran.0 ran.1 old new stands ran.2
does it epoch (Evolved input) old new stands ran = evolves it epoch input ran.0 old new stands ran.1

-- what runs lead to
pub record All (it : SavedStore) (pieces : List (List ℕ)) (old new : View) : Type 0 where
  pub epoch : ℕ
  pub stands : Stands it epoch new
  pub shown : ShowsAll (shown_of old) pieces (shown_of new)

module _ {W : Type 0} (view : W → View) where
  pub do_all : (it : SavedStore) (epoch : ℕ) (deeds : List Deed) (old new : W) → Stands it epoch (view old) → DoAll view deeds old new
      → All (after_deeds it deeds) (told_deeds it epoch deeds) (view old) (view new)
  do_all it epoch [] old new stands same = record {
    epoch = epoch;
    stands = subst (λ (w : W). Stands it epoch (view w)) (sym same) stands;
    shown = subst (λ (w : W). ShowsAll (shown_of (view old)) [] (shown_of (view w))) (sym same) (shows_none (shown_of (view old)));
  }
  do_all it epoch (deed ∷ deeds) old new stands runs =
      let first = does it epoch deed (view old) (view runs.0) stands runs.1 in
      let rest = do_all (after_deed it deed) (epoch_after epoch deed) deeds runs.0 new first.stands runs.2 in
      record {
        epoch = rest.epoch;
        stands = rest.stands;
        shown = shows_on (shown_of (view old)) (shown_of (view runs.0)) (shown_of (view new)) (told_deed it epoch deed) (told_deeds (after_deed it deed) (epoch_after epoch deed) deeds) first.shown rest.shown;
      }

  pub runs_add_up : (text input : List ℕ) (schema : Resolved) (deeds : List Deed) (lost failed : ℕ) (first loaded last done : W) → IsTrue (view first).tells_bytes → FindsNone (view first)
      → schema_answer text ≡ Ok schema → Ran Load text lost (view first) (view loaded) → DoAll view deeds loaded last → Ran Recover input failed (view last) (view done)
      → ShowsAll (shown_of (view first)) (told_sequence text schema deeds) (shown_of (view done))
  runs_add_up text input schema deeds lost failed first loaded last done tells free is one_ran ran recovered =
      let one = loads text schema lost (view first) (view loaded) tells free is one_ran in
      let it = after_deeds (new_store text schema) deeds in
      let all = do_all (new_store text schema) 1 deeds loaded last one.stands ran in
      let shown = shows Recover input failed (view last) (view done) recovered (λ asks. all.stands.tells) in
      let told : told_of_areas (areas_of (view last)) told_dump ≡ told_dump it = told_stands (view last) it told_dump all.stands.saves in
      shows_on (shown_of (view first)) (shown_of (view loaded)) (shown_of (view done)) (line_of schema ∷ []) (told_deeds (new_store text schema) 1 deeds ++ dump it.text it.graph) one.shown
      (shows_on (shown_of (view loaded)) (shown_of (view last)) (shown_of (view done)) (told_deeds (new_store text schema) 1 deeds) (dump it.text it.graph) all.shown
      (subst (λ (t : Told Status). ShowsAll (shown_of (view last)) t.pieces (shown_of (view done))) told shown.0))
