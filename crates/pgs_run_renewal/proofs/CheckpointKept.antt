-- Which line is told, and what is left where both areas are kept.
use Rattle.std.proofs.Common.{◌≡◌, inl, ℕ, ◌+◌, Bool, true, false, IsTrue, List, [], ◌∷◌, Option, Some, None, Result, Ok, Err, refl, sym, ap₂, subst, ◌∙◌}
use Rattle.std.specs.Prelude.{◌==◌, if◌then◌else◌}
use Rattle.std.proofs.lemmas.List.{append-nil}
use Rattle.pgs_answer.specs.Lines.{checkpoint_line, schema_refused_line, store_refused_line}
use Rattle.pgs_answer.specs.Refusals.{epochs_spent_text, foreign_text, no_store_text, bad_record_text, bad_history_text}
use Rattle.pgs_run_lines.specs.Machine.{Told}
use Rattle.pgs_run_lines.specs.Pieces.{Shown, ShowsAll, shown_of}
use Rattle.pgs_run_lines.proofs.Showing.{shows_none}
use Rattle.pgs_snapshot.specs.Choice.{chosen_area, chosen_epoch}
use Rattle.pgs_snapshot.specs.Saved.{SavedState, saved}
use Rattle.pgs_snapshot.specs.Saved as states
use Rattle.pgs_syntax.specs.declared.resolved.Resolved.{Resolved}
use Rattle.pgs_world.specs.Moment.{EachSince, IsQuiet, IsSettled}
use Rattle.pgs_world.specs.World.{Triple, View}
use Rattle.pgs_world.proofs.Moments.{each_quiet}
use Rattle.pgs_command.specs.declared.status.Status.{Status}
use Rattle.pgs_command.specs.declared.status.Status.TheVariants.{Accepted, Refused, BadWords, SchemaRefused, StoreRefused, DiskFault, ReadFault, PutFault, Memory, InputTooLong}
use Rattle.pgs_command.specs.Areas.{Areas, areas_of}
use Rattle.pgs_command.specs.Images.{KeepsImages}
use Rattle.pgs_command.proofs.Images.{area_of_images}
use Rattle.pgs_run_input.specs.Answers.{schema_answer, schema_or_text}
use Rattle.pgs_run_input.specs.Session.{standard}
use Rattle.pgs_run_store.specs.Refusing.{SavedStore, store_refused, told_of_areas, told_saved, told_under}
use Rattle.pgs_run_store.specs.Spec.{IsUnput}
use Rattle.pgs_run_renewal.specs.CheckpointLeaving.{IsStore, IsTorn, LeavesRenewed, PutsFront, StopsRenewing, saved_there}
use Rattle.pgs_run_renewal.specs.CheckpointTold.{told_by, told_checkpoint}

-- ---- one line is told, and it isn't empty where a checkpoint was made

record TellsOne (told : Told Status) : Type 0 where
  line : List ℕ
  one : told.pieces ≡ line ∷ []
  some : told.status ≡ Accepted → line ≡ [] → ⊥

refuses : (text : List ℕ) → TellsOne (store_refused text)
refuses text = record { line = store_refused_line text; one = refl; some = λ accepted. cc }

one_if : (last : Bool) (epoch commits : ℕ) → TellsOne (if last then store_refused epochs_spent_text else record { pieces = checkpoint_line (epoch + 1) commits ∷ []; status = Accepted })
one_if true epoch commits = refuses epochs_spent_text
one_if false epoch commits = record { line = checkpoint_line (epoch + 1) commits; one = refl; some = λ accepted none. cc }

one_by : (epoch : Option ℕ) (it : SavedStore) → TellsOne (told_by epoch it)
one_by None it = refuses no_store_text
one_by (Some epoch) it = one_if (epoch == 16777215) epoch it.commits

one_under : (answer : Result Resolved (List ℕ)) (go : Resolved → Told Status) → ((schema : Resolved) → TellsOne (go schema)) → TellsOne (told_under answer go)
one_under (Ok schema) go one = one schema
one_under (Err text) go one = record { line = schema_refused_line text; one = refl; some = λ accepted. cc }

one_saved : (state : SavedState) (go : SavedStore → Told Status) → ((it : SavedStore) → TellsOne (go it)) → TellsOne (told_saved state go)
one_saved states.foreign go one = refuses foreign_text
one_saved states.no_store go one = refuses no_store_text
one_saved (states.bad_record number) go one = refuses (bad_record_text number)
one_saved (states.bad_schema answer) go one = one_under (schema_or_text answer) (λ schema. store_refused no_store_text) (λ schema. refuses no_store_text)
one_saved (states.bad_history number rejection) go one = refuses (bad_history_text number rejection standard)
one_saved (states.store text commits graph) go one =
    one_under (schema_answer text) (λ schema. go (record { text = text; schema = schema; commits = commits; graph = graph }))
    (λ schema. one (record { text = text; schema = schema; commits = commits; graph = graph }))

tells_one : (areas : Areas) → TellsOne (told_checkpoint areas)
unfolding told_checkpoint told_of_areas
tells_one areas = one_saved (saved standard areas.a areas.b) (told_by (chosen_epoch areas.a areas.b)) (one_by (chosen_epoch areas.a areas.b))

-- nothing of the line is out, so that it isn't out whole where a checkpoint was made
pub puts_none : (old : View) (left c : Triple) → old.may_leave left → c.output ≡ left.output
    → (puts : PutsFront (told_checkpoint (areas_of old)) old c) × (puts.back ≡ [] → (told_checkpoint (areas_of old)).status ≡ Accepted → ⊥)
puts_none old left c before same =
    let told = tells_one (areas_of old) in (
      record { line = told.line; one = told.one; left = left; before = before; front = []; back = told.line; parts = refl; output = same ∙ sym (append-nil left.output) },
      λ none accepted. told.some accepted none,
    )

-- ---- both areas are kept

-- a stop leaves their bytes, and no whole line of a checkpoint
pub stops_kept : (old : View) (c : Triple) → c.a ≡ old.shown.a → c.b ≡ old.shown.b → (puts : PutsFront (told_checkpoint (areas_of old)) old c)
    → (puts.back ≡ [] → (told_checkpoint (areas_of old)).status ≡ Accepted → ⊥) → StopsRenewing old c
stops_kept old c a b puts never = record {
  puts = puts;
  saves = ap₂ (saved standard) a b;
  chosen_as = inl (record { area = ap₂ chosen_area a b; epoch = ap₂ chosen_epoch a b });
  whole = λ none accepted. absurd (never none accepted);
}

-- the areas were only read
pub stops_quiet : (old new : View) → IsQuiet old new → IsSettled old → EachSince (StopsRenewing old) old new
stops_quiet old new quiet settled =
    each_quiet old new (StopsRenewing old) settled.honest quiet
    (λ c may. let puts = puts_none old c c may refl in stops_kept old c (settled.a c may) (settled.b c may) puts.0 puts.1)

-- nothing was put
pub shows_same : (start now : Shown) → now ≡ start → ShowsAll start [] now
shows_same start now same = subst (λ (at : Shown). ShowsAll start [] at) (sym same) (shows_none start)

-- a refusal's line was being put
torn_kept : (told : Status) (old new : View) → KeepsImages old new → (told ≡ Accepted → ⊥) → IsTorn told old new
torn_kept Accepted old new images never = absurd (never refl)
torn_kept Refused old new images never = images
torn_kept BadWords old new images never = images
torn_kept SchemaRefused old new images never = images
torn_kept StoreRefused old new images never = images
torn_kept DiskFault old new images never = images
torn_kept ReadFault old new images never = images
torn_kept PutFault old new images never = images
torn_kept Memory old new images never = images
torn_kept InputTooLong old new images never = images

-- with 7 the line of a refusal was being put, and with want of memory nothing was
pub record PutsRefusal (old new : View) (status : Status) : Type 0 where
  pub never : status ≡ Accepted → ⊥
  pub torn : IsTrue old.tells_bytes → status ≡ PutFault → (told_checkpoint (areas_of old)).status ≡ Accepted → ⊥
  pub unput : IsUnput status → ShowsAll (shown_of old) [] (shown_of new)

pub leaves_kept : (old new : View) (status : Status) → KeepsImages old new → PutsRefusal old new status → (IsSettled old → IsStore (saved_there old.shown) → EachSince (StopsRenewing old) old new) → LeavesRenewed old new status
leaves_kept old new status images puts stops = record {
  passes = images.passes;
  stops = stops;
  unsaved = λ tells none. images;
  unwritten = λ is. images;
  beside = λ tells area is. area_of_images area old new images;
  kept = λ tells no. ap₂ (saved standard) images.a images.b;
  renewed = λ tells accepted. absurd (puts.never accepted);
  torn = λ tells is. torn_kept (told_checkpoint (areas_of old)).status old new images (puts.torn tells is);
  unput = puts.unput;
}

-- there was no memory
pub puts_memory : (old new : View) → shown_of new ≡ shown_of old → PutsRefusal old new Memory
puts_memory old new same = record {
  never = λ is. cc;
  torn = λ tells is accepted. let no : Memory ≡ PutFault = is in cc;
  unput = λ is. shows_same (shown_of old) (shown_of new) same;
}
