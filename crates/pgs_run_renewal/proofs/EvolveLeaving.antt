-- What is left of the world where it was only read, where a refusal was put, and by calls that come one after another.
use Rattle.std.proofs.Common.{◌≡◌, inl, ℕ, IsTrue, List, [], ◌++◌, Option, Some, None, Result, Ok, refl, sym, ◌∙◌, ap, subst}
use Rattle.pgs_base.specs.Graph.{Graph}
use Rattle.pgs_run_lines.specs.Pieces.{Shown, ShowsAll, shown_of}
use Rattle.pgs_run_lines.proofs.Showing.{shows_none}
use Rattle.pgs_command.specs.declared.status.Status.{Status}
use Rattle.pgs_command.specs.declared.status.Status.TheVariants.{Accepted, PutFault}
use Rattle.pgs_command.specs.Images.{KeepsImages}
use Rattle.pgs_run_input.specs.Answers.{schema_answer}
use Rattle.pgs_run_input.specs.Input.{text_front}
use Rattle.pgs_command.proofs.Images.{area_of_images, area_on, each_images, images_on, images_quiet}
use Rattle.pgs_run_input.proofs.SameFronts.{schema_of_front}
use Rattle.pgs_run_input.specs.Session.{standard}
use Rattle.pgs_snapshot.specs.Choice.{chosen_area, chosen_next}
use Rattle.pgs_snapshot.specs.Saved.{saved, store}
use Rattle.pgs_syntax.specs.declared.resolved.Resolved.{Resolved}
use Rattle.pgs_violation.specs.declared.violation.Verdict.TheVariants.{Conforms}
use Rattle.pgs_violation.specs.Violations.{verdict}
use Rattle.pgs_world.specs.Disk.{PutsFront}
use Rattle.pgs_world.specs.Moment.{EachSince, IsQuiet, IsSettled, IsTimed, StopsBy}
use Rattle.pgs_world.specs.World.{Triple, View, other}
use Rattle.pgs_world.proofs.Moments.{each_on, each_quiet, passes_on, settled_quiet}
use Rattle.pgs_run_renewal.specs.Evolving.{IsEvolving, IsEvolvingAt, IsRenewed}
use Rattle.pgs_run_store.specs.Spec.{IsUnput}
use Rattle.pgs_run_renewal.specs.EvolveLeaving.{LeavesEvolved, IsConforming, IsMade, SavesAs, kept_of}
use Rattle.pgs_run_renewal.proofs.EvolveUnmoved.{same_under, settled_under, starts_at}
use Rattle.pgs_run_renewal.proofs.EvolveKept.{evolving_whole, renewed_whole, same_evolving}
use Rattle.pgs_run_renewal.proofs.Unlike.{IsUnlike}

-- ---- the areas are what they were

abbrev pub Stops : Option (List ℕ) → View → View → Type 0
Stops left old new = (input before : List ℕ) (commits : ℕ) (graph : Graph) → left ≡ Some input → SavesAs old before commits graph → IsTrue old.tells_output → IsSettled old
    → EachSince (IsEvolvingAt (kept_of old commits graph) before input) old new

abbrev pub Unmade : Option (List ℕ) → View → Status → Type 0
Unmade left old status = IsTrue old.tells_bytes → (input before : List ℕ) (commits : ℕ) (graph : Graph) → left ≡ Some input → SavesAs old before commits graph
    → IsMade (chosen_next old.shown.a old.shown.b) input graph status → ⊥

abbrev pub Unput : View → View → Status → Type 0
Unput old new status = IsUnput status → ShowsAll (shown_of old) [] (shown_of new)

pub leaves_kept : (left : Option (List ℕ)) (old new : View) (status : Status) → KeepsImages old new → Stops left old new → Unmade left old status → Unput old new status → LeavesEvolved left old new status
leaves_kept left old new status kept stops unmade unput = record {
  passes = kept.passes;
  stops = stops;
  grows = λ before commits graph saves settled.
      each_images old new (IsEvolving (kept_of old commits graph) before) settled.honest (same_evolving (kept_of old commits graph) before) kept
      (λ d may. inl (settled_under old before commits graph saves settled d may));
  unsaved = λ tells none. kept;
  old_format = λ tells none. kept;
  unwritten = λ is. kept;
  refused = λ tells input before commits graph is saves unfit. kept;
  beside = λ tells area is. area_of_images (other area) old new kept;
  made = λ tells input before commits graph is saves made. absurd (unmade tells input before commits graph is saves made);
  unput = unput;
}

-- nothing was put
pub shows_same : (start now : Shown) → now ≡ start → ShowsAll start [] now
shows_same start now same = subst (λ (at : Shown). ShowsAll start [] at) (sym same) (shows_none start)

-- the world was only read
pub leaves_quiet : (left : Option (List ℕ)) (old new : View) (status : Status) → IsTimed old → IsQuiet old new → shown_of new ≡ shown_of old → Unmade left old status → LeavesEvolved left old new status
leaves_quiet left old new status timed quiet same unmade =
    leaves_kept left old new status (images_quiet old new quiet)
    (λ input before commits graph is saves tells settled.
    each_quiet old new (IsEvolvingAt (kept_of old commits graph) before input) settled.honest quiet (starts_at old before commits graph saves input timed tells settled))
    unmade (λ is. shows_same (shown_of old) (shown_of new) same)

-- ---- a refusal was put

-- while a line is put that is unlike that of any schema
puts_at : (text line : List ℕ) (old new : View) (before : List ℕ) (commits : ℕ) (graph : Graph) → IsUnlike line → SavesAs old before commits graph → IsTimed old → IsTrue old.tells_output → IsSettled old
    → StopsBy (PutsFront line) old new → EachSince (IsEvolvingAt (kept_of old commits graph) before text) old new
puts_at text line old new before commits graph unlike saves timed tells settled stops c left =
    let from = stops settled.honest c left in
    let put = from.2 in
    record {
      front = put.front;
      out = put.added ∙ ap (λ (output : List ℕ). output ++ put.front) (timed.output settled.honest tells from.0 from.1);
      state = inl (same_under (kept_of old commits graph) before from.0 c put.a put.b (settled_under old before commits graph saves settled from.0 from.1));
      evolved = λ schema is said. absurd (unlike schema put.front put.back put.parts said);
    }

pub leaves_refused : (text line : List ℕ) (old new : View) (status : Status) → IsTimed old → KeepsImages old new → StopsBy (PutsFront line) old new → IsUnlike line → Unmade (Some text) old status → Unput old new status
    → LeavesEvolved (Some text) old new status
leaves_refused text line old new status timed kept stops unlike unmade unput =
    leaves_kept (Some text) old new status kept
    (λ input before commits graph is saves tells settled.
    let same : text ≡ input = cc in
    subst (λ (t : List ℕ). EachSince (IsEvolvingAt (kept_of old commits graph) before t) old new) same
    (puts_at text line old new before commits graph unlike saves timed tells settled stops))
    unmade unput

-- ---- one call after another

abbrev SavesIn : Triple → List ℕ → ℕ → Graph → Type 0
SavesIn c text commits graph = saved standard c.a c.b ≡ store text commits graph

pub leaves_on : (left : Option (List ℕ)) (old mid new : View) (status : Status) → IsTimed old → IsQuiet old mid → shown_of mid ≡ shown_of old → LeavesEvolved left mid new status → LeavesEvolved left old new status
leaves_on left old mid new status timed quiet same later = record {
  passes = passes_on old mid new quiet.passes later.passes;
  stops = λ input before commits graph is saves tells settled.
      let P = IsEvolvingAt (kept_of old commits graph) before input in
      each_on old mid new P quiet.passes later.passes (each_quiet old mid P settled.honest quiet (starts_at old before commits graph saves input timed tells settled))
      (subst (λ (t : Triple). EachSince (IsEvolvingAt (record { was = t; commits = commits; graph = graph }) before input) mid new) quiet.shown
      (later.stops input before commits graph is (there before commits graph saves) (quiet.passes.tells_output ∙ tells) (settled_quiet old mid settled quiet)));
  grows = λ before commits graph saves settled.
      let P = IsEvolving (kept_of old commits graph) before in
      each_on old mid new P quiet.passes later.passes (each_quiet old mid P settled.honest quiet (λ c may. inl (settled_under old before commits graph saves settled c may)))
      (subst (λ (t : Triple). EachSince (IsEvolving (record { was = t; commits = commits; graph = graph }) before) mid new) quiet.shown
      (later.grows before commits graph (there before commits graph saves) (settled_quiet old mid settled quiet)));
  unsaved = λ tells none. images_on old mid new kept (later.unsaved (quiet.passes.tells_bytes ∙ tells) (λ text commits graph saves. none text commits graph (back text commits graph saves)));
  old_format = λ tells none.
      images_on old mid new kept
      (later.old_format (quiet.passes.tells_bytes ∙ tells) (subst (λ (t : Triple). chosen_next t.a t.b ≡ None) (sym quiet.shown) none));
  unwritten = λ is. images_on old mid new kept (later.unwritten is);
  refused = λ tells input before commits graph is saves unfit.
      images_on old mid new kept (later.refused (quiet.passes.tells_bytes ∙ tells) input before commits graph is (there before commits graph saves) unfit);
  beside = λ tells area is.
      area_on (other area) old mid new (area_of_images (other area) old mid kept)
      (later.beside (quiet.passes.tells_bytes ∙ tells) area (subst (λ (t : Triple). chosen_area t.a t.b ≡ Some area) (sym quiet.shown) is));
  made = λ tells input before commits graph is saves made.
      subst (λ (t : Triple). IsRenewed (record { was = t; commits = commits; graph = graph }) input new.shown) quiet.shown
      (later.made (quiet.passes.tells_bytes ∙ tells) input before commits graph is (there before commits graph saves)
      (subst (λ (t : Triple). IsMade (chosen_next t.a t.b) input graph status) (sym quiet.shown) made));
  unput = λ is. subst (λ (start : Shown). ShowsAll start [] (shown_of new)) same (later.unput is);
}
  where
    kept : KeepsImages old mid
    kept = images_quiet old mid quiet

    there : (before : List ℕ) (commits : ℕ) (graph : Graph) → SavesAs old before commits graph → SavesAs mid before commits graph
    there before commits graph saves = subst (λ (t : Triple). SavesIn t before commits graph) (sym quiet.shown) saves

    back : (before : List ℕ) (commits : ℕ) (graph : Graph) → SavesAs mid before commits graph → SavesAs old before commits graph
    back before commits graph saves = subst (λ (t : Triple). SavesIn t before commits graph) quiet.shown saves

-- ---- the front of an input

-- that the schema is in force, by the answer to its text
abbrev made_by : Option ℕ → Result Resolved (List ℕ) → Graph → Status → Type 0
made_by next answer graph Accepted = Unit {0}
made_by next answer graph PutFault = (number : ℕ) × (next ≡ Some number) × ((schema : Resolved) × (answer ≡ Ok schema) × (verdict schema graph ≡ Conforms))
made_by next answer graph status = ⊥

conforming_front : (input : List ℕ) (graph : Graph) → IsConforming (text_front input) graph → IsConforming input graph
conforming_front input graph conforming = (conforming.0, sym (schema_of_front input) ∙ conforming.1, conforming.2)

-- what is left where the front was the text is left where the input was
pub leaves_whole : (left : Option (List ℕ)) (text : List ℕ) (old new : View) (status : Status) → ((input : List ℕ) → left ≡ Some input → text ≡ text_front input) → LeavesEvolved (Some text) old new status
    → LeavesEvolved left old new status
leaves_whole left text old new status front leaves = record {
  passes = leaves.passes;
  stops = λ input before commits graph is saves tells settled c since.
      let P = λ (t : List ℕ). IsEvolvingAt (kept_of old commits graph) before t c in
      evolving_whole (kept_of old commits graph) before input c
      (subst P (front input is) (leaves.stops text before commits graph refl saves tells settled c since));
  grows = leaves.grows;
  unsaved = leaves.unsaved;
  old_format = leaves.old_format;
  unwritten = leaves.unwritten;
  refused = λ tells input before commits graph is saves unfit.
      leaves.refused tells text before commits graph refl saves
      (λ conforming. unfit (conforming_front input graph (subst (λ (t : List ℕ). IsConforming t graph) (front input is) conforming)));
  beside = leaves.beside;
  made = λ tells input before commits graph is saves made.
      let next = chosen_next old.shown.a old.shown.b in
      renewed_whole (kept_of old commits graph) input new.shown
      (subst (λ (t : List ℕ). IsRenewed (kept_of old commits graph) t new.shown) (front input is)
      (leaves.made tells text before commits graph refl saves
      (subst (λ (a : Result Resolved (List ℕ)). made_by next a graph status) (sym (ap schema_answer (front input is) ∙ schema_of_front input)) made)));
  unput = leaves.unput;
}
