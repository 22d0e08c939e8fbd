-- What is done with a text, by what the calls of the store and of its one line did.
use Rattle.std.proofs.Common.{◌≡◌, ◌⊎◌, inl, inr, ⊎_elim, ℕ, true, false, IsTrue, List, ◌++◌, Option, Some, None, Result, Ok, Err, refl, sym, ◌∙◌, ap, subst}
use Rattle.std.specs.Option.{is_some}
use Rattle.pgs_base.specs.Graph.{Graph}
use Rattle.pgs_answer.specs.Lines.{evolve_refused_line, schema_refused_line, store_refused_line}
use Rattle.pgs_answer.specs.Refusals.{old_format_text, violation_text}
use Rattle.pgs_codec.specs.declared.command.Command.TheVariants.{Schema}
use Rattle.pgs_journal.specs.declared.journal.Journal.{Journal}
use Rattle.pgs_resolve.specs.SchemaOf.{schema, schema_of}
use Rattle.pgs_run_lines.specs.Machine.{Told}
use Rattle.pgs_run_lines.specs.Pieces.{shown_of}
use Rattle.pgs_run_lines.specs.Replies.{EndsLast, EndsReply, PutsReply}
use Rattle.pgs_command.specs.declared.status.Status.{Status}
use Rattle.pgs_command.specs.declared.status.Status.TheVariants.{Accepted, Refused, SchemaRefused, StoreRefused, DiskFault, PutFault, Memory}
use Rattle.pgs_command.specs.Answers.{IsOfCommand}
use Rattle.pgs_command.specs.Images.{IsUnwritten, KeepsArea}
use Rattle.pgs_command.proofs.Images.{area_beside, area_of_images, area_on, images_areas, settled_images}
use Rattle.pgs_command.proofs.Replied.{IsOwn, by_last}
use Rattle.pgs_run_input.specs.Answers.{schema_answer}
use Rattle.pgs_run_input.proofs.Answering.{answer_ok}
use Rattle.pgs_run_input.proofs.OneLine.{PutsLine, answers_failed, answers_line, answers_none, line_of_reply, same_shown, silent_none, told_line}
use Rattle.pgs_run_store.specs.Refusing.{told_under}
use Rattle.pgs_snapshot.specs.Choice.{chosen_next}
use Rattle.pgs_store.specs.Evolves.{IsEvolved, IsFitting, IsNumbered, IsViolated}
use Rattle.pgs_store.specs.State.{GuardState}
use Rattle.pgs_store.specs.Stored.{StoreState, IsEvolvedIn, IsSavedIn, longer}
use Rattle.pgs_store.specs.Stored.{IsConforming as Conforming}
use Rattle.pgs_store.specs.World.{CountsFault, StaysBeside}
use Rattle.pgs_syntax.specs.declared.resolved.Resolved.{Resolved}
use Rattle.pgs_violation.specs.declared.violation.Verdict.{Verdict}
use Rattle.pgs_violation.specs.declared.violation.Verdict.TheVariants.{Conforms, Refused as Violated}
use Rattle.pgs_violation.specs.declared.violation.Violation.{Violation}
use Rattle.pgs_violation.specs.Violations.{verdict}
use Rattle.pgs_world.specs.declared.area.Area.{Area}
use Rattle.pgs_world.specs.Moment.{EachSince, IsSettled, IsTimed, Passes}
use Rattle.pgs_world.specs.World.{Triple, View, other}
use Rattle.pgs_world.proofs.Moments.{each_on, passes_on}
use Rattle.pgs_run_renewal.specs.Evolving.{Kept, IsEvolving, IsEvolvingAt, IsRenewed, IsUnder}
use Rattle.pgs_run_store.specs.Spec.{IsUnput}
use Rattle.pgs_run_renewal.specs.EvolveLeaving.{EvolvesText, IsConforming, IsEvolvable, IsMade, LeavesEvolved, SavesAs, kept_of}
use Rattle.pgs_run_renewal.specs.EvolveTold.{line_of, told_new, told_text, told_verdict}
use Rattle.pgs_run_renewal.proofs.EvolveKept.{area_there, as_saved, evolved_in, next_there, renewed_in, same_renewed, saves_there}
use Rattle.pgs_run_renewal.proofs.EvolveLeaving.{Unput, leaves_refused}
use Rattle.pgs_run_renewal.proofs.EvolveUnmoved.{evolved_none, evolving_here}
use Rattle.pgs_run_renewal.proofs.Unlike.{IsUnlike, refused_unlike, schema_unlike, store_unlike}

-- ---- nothing was done

pub evolves_none : (told : Told Status) (text : List ℕ) (view : View) → IsTimed view → EvolvesText told text view view Memory
evolves_none told text view timed = record { answers = answers_none told view view (silent_none view); leaves = evolved_none (Some text) view timed; settles = λ settled no. settled }

-- ---- a refusal was put

-- the text isn't put into force over what is saved: the store is of the first format, or the graph doesn't conform
abbrev pub IsUnfit : View → List ℕ → Type 0
IsUnfit view text = IsTrue view.tells_bytes → (before : List ℕ) (commits : ℕ) (graph : Graph) (number : ℕ) → SavesAs view before commits graph → chosen_next view.shown.a view.shown.b ≡ Some number
    → IsConforming text graph → ⊥

-- a refusal: its line is told, which is unlike that of any schema, and the text isn't put into force
pub record Refuses (told : Told Status) (text line : List ℕ) (status : Status) (old : View) : Type 0 where
  pub own : IsOwn true status
  pub may_end : IsOfCommand status
  pub unmade : (next : Option ℕ) (input : List ℕ) (graph : Graph) → IsMade next input graph status → ⊥
  pub said : IsUnput status → ⊥
  pub told_is : told ≡ told_line line status
  pub unlike : IsUnlike line
  pub unfit : IsUnfit old text

-- its line was put, or there was no memory for it
pub evolves_refused : (told : Told Status) (text line : List ℕ) (status result : Status) (old new : View) → IsTimed old → Refuses told text line status old → PutsLine line status old result new → EvolvesText told text old new result
evolves_refused told text line status result old new timed refuses put =
    let kept = images_areas old new put.areas in
    record {
      answers = answers_line told line status result old old new (silent_none old) refuses.own refuses.may_end refuses.told_is put;
      leaves = leaves_refused text line old new result timed kept put.stops refuses.unlike
          (λ tells input before commits graph is saves.
          let next = chosen_next old.shown.a old.shown.b in
          let same : input ≡ text = cc in
          by_last (λ (s : Status). IsMade next input graph s → ⊥) line status result old new (refuses.unmade next input graph)
          (λ made. refuses.unfit tells before commits graph made.0 saves made.1 (subst (λ (t : List ℕ). IsConforming t graph) same made.2)) (λ made. made) put.ends)
          (unput put.ends);
      settles = λ settled no. settled_images old new settled kept;
    }
  where
    unput : EndsLast line status PutFault Memory old result new → Unput old new result
    unput (inl (inl whole)) is = absurd (refuses.said (subst IsUnput whole.0 is))
    unput (inl (inr torn)) is = absurd (subst IsUnput torn.0 is)
    unput (inr none) is = none.1

-- ---- what is told of a text

same_schema : (text : List ℕ) (resolved read : Resolved) → schema_answer text ≡ Ok read → schema_of text ≡ schema resolved → resolved ≡ read
same_schema text resolved read is of_text =
    let same : (let r : Result Resolved (List ℕ) = Ok resolved in r) ≡ Ok read = sym (answer_ok text resolved of_text) ∙ is in cc

told_answer : (text : List ℕ) (graph : Graph) (read : Resolved) → schema_answer text ≡ Ok read → told_text text graph ≡ told_verdict read (verdict read graph)
told_answer text graph read is = ap (λ (answer : Result Resolved (List ℕ)). told_under answer (λ read. told_verdict read (verdict read graph))) is

told_by : (text : List ℕ) (graph : Graph) (resolved read : Resolved) (found : Verdict) → schema_answer text ≡ Ok read → schema_of text ≡ schema resolved → verdict resolved graph ≡ found
    → told_text text graph ≡ told_verdict read found
told_by text graph resolved read found is of_text judged =
    told_answer text graph read is
    ∙ ap (told_verdict read) (subst (λ (r : Resolved). verdict r graph ≡ found) (same_schema text resolved read is of_text) judged)

pub told_made : (text : List ℕ) (guard : GuardState) (resolved read : Resolved) → schema_answer text ≡ Ok read → Conforming guard text resolved → told_text text guard.graph ≡ told_line (line_of read) Accepted
told_made text guard resolved read is conforming = told_by text guard.graph resolved read Conforms is conforming.0 conforming.1

pub without_next : (next : Option ℕ) → is_some next ≡ false → next ≡ None
without_next None first = refl
without_next (Some number) first = let no : true ≡ false = first in cc

-- over a store of the second format
pub told_numbered : (next : Option ℕ) (text : List ℕ) (graph : Graph) → is_some next ≡ true → told_new next text graph ≡ told_text text graph
told_numbered None text graph second = let no : false ≡ true = second in cc
told_numbered (Some number) text graph second = refl

two_verdicts : (resolved other : Resolved) (graph : Graph) (violation : Violation) → resolved ≡ other → verdict resolved graph ≡ Violated violation → verdict other graph ≡ Conforms → ⊥
two_verdicts resolved other graph violation same judged conforms =
    let no : Violated violation ≡ Conforms = sym (subst (λ (r : Resolved). verdict r graph ≡ Violated violation) same judged) ∙ conforms in cc

-- ---- refusals

-- the text is no schema
pub refuses_text : (text why : List ℕ) (graph : Graph) (old : View) → schema_answer text ≡ Err why → Refuses (told_text text graph) text (schema_refused_line why) SchemaRefused old
refuses_text text why graph old is = record {
  own = tt;
  may_end = tt;
  unmade = λ next input graph made. made;
  said = λ no. no;
  told_is = ap (λ (answer : Result Resolved (List ℕ)). told_under answer (λ read. told_verdict read (verdict read graph))) is;
  unlike = schema_unlike why;
  unfit = λ tells before commits graph number saves next conforming. let no : Ok conforming.0 ≡ Err why = sym conforming.1 ∙ is in cc;
}

-- the store is of the first format
pub refuses_old : (it : StoreState) (view : View) (text : List ℕ) → IsEvolvable it view → it.journal.next ≡ None
    → Refuses (told_new it.journal.next text it.guard.graph) text (store_refused_line old_format_text) StoreRefused view
refuses_old it view text ready first = record {
  own = refl;
  may_end = tt;
  unmade = λ next input graph made. made;
  said = λ no. no;
  told_is = ap (λ (n : Option ℕ). told_new n text it.guard.graph) first;
  unlike = store_unlike old_format_text;
  unfit = λ tells before commits graph number saves next conforming. let no : Some number ≡ None = sym next ∙ next_there it view ready tells ∙ first in cc;
}

-- the graph has a violation under the schema
pub refuses_violated : (it : StoreState) (view : View) (text : List ℕ) (violation : Violation) (read : Resolved) → IsEvolvable it view → schema_answer text ≡ Ok read → IsViolated it.guard text violation
    → Refuses (told_text text it.guard.graph) text (evolve_refused_line (violation_text violation)) Refused view
refuses_violated it view text violation read ready is violated = record {
  own = tt;
  may_end = tt;
  unmade = λ next input graph made. made;
  said = λ no. no;
  told_is = told_by text it.guard.graph violated.0 read (Violated violation) is violated.1.0 violated.1.1;
  unlike = refused_unlike (violation_text violation);
  unfit = λ tells before commits graph number saves next conforming.
      two_verdicts violated.0 conforming.0 graph violation (same_schema text violated.0 conforming.0 conforming.1 violated.1.0)
      (as_saved it view ready tells before commits graph saves (λ t n g. verdict violated.0 g ≡ Violated violation) violated.1.1) conforming.2;
}

-- ---- the store was put under the text

-- the store was asked to
pub record Evolving (it : StoreState) (text : List ℕ) (old mid : View) : Type 0 where
  pub timed : IsTimed old
  pub ready : IsEvolvable it old
  pub numbered : IsNumbered it.journal
  pub beside : StaysBeside it.journal.area old mid
  pub stops : IsTrue old.honest → IsTrue old.tells_bytes → EachSince (IsEvolvedIn it.guard it.journal text) old mid

module _ (it : StoreState) (text : List ℕ) (old mid : View) (call : Evolving it text old mid) where
  abbrev it_kept : Kept
  it_kept = kept_of old it.guard.commits it.guard.graph

  shown : shown_of mid ≡ shown_of old
  shown = same_shown old mid call.beside.passes.tells_output call.beside.shown.output call.beside.no_put

  other_area : KeepsArea (other it.journal.area) old mid
  other_area = area_beside it.journal.area old mid call.beside.passes call.beside.shown call.beside.stops

  -- while the call went on
  state_at : IsSettled old → (c : Triple) → mid.left_since old.moment c → IsUnder it_kept it.guard.text c ⊎ IsRenewed it_kept text c
  state_at settled c left = evolved_in it old call.ready settled.tells_bytes c text (call.stops settled.honest settled.tells_bytes c left)

  during : IsTrue old.tells_output → IsSettled old → EachSince (IsEvolvingAt it_kept it.guard.text text) old mid
  during tells settled c left =
      let from = call.beside.stops settled.honest c left in
      evolving_here it_kept it.guard.text text c (from.2.output ∙ call.timed.output settled.honest tells from.0 from.1) (state_at settled c left)

  grows : IsSettled old → EachSince (IsEvolving it_kept it.guard.text) old mid
  grows settled c left = ⊎_elim (λ under. inl under) (λ renewed. inr (text, renewed)) (state_at settled c left)

  -- what is left where the graph conforms to the text
  leaves_written : (resolved : Resolved) → Conforming it.guard text resolved → (new : View) (status : Status) → Passes old new → (IsTrue old.tells_output → IsSettled old → EachSince (IsEvolvingAt it_kept it.guard.text text) old new)
      → (IsSettled old → EachSince (IsEvolving it_kept it.guard.text) old new) → KeepsArea (other it.journal.area) old new → (IsUnwritten status → ⊥) → (IsUnput status → ⊥)
      → (IsTrue old.tells_bytes → (next : Option ℕ) (input : List ℕ) (graph : Graph) → IsMade next input graph status → IsRenewed it_kept text new.shown) → LeavesEvolved (Some text) old new status
  leaves_written resolved conforming new status passes stops grows beside written said made = record {
    passes = passes;
    stops = λ input before commits graph is saves tells settled.
        let same : text ≡ input = cc in
        subst (λ (t : List ℕ). EachSince (IsEvolvingAt (kept_of old commits graph) before t) old new) same
        (as_saved it old call.ready settled.tells_bytes before commits graph saves (λ t n g. EachSince (IsEvolvingAt (kept_of old n g) t text) old new) (stops tells settled));
    grows = λ before commits graph saves settled.
        as_saved it old call.ready settled.tells_bytes before commits graph saves (λ t n g. EachSince (IsEvolving (kept_of old n g) t) old new) (grows settled);
    unsaved = λ tells none. absurd (none it.guard.text it.guard.commits it.guard.graph (saves_there it old call.ready tells));
    old_format = λ tells none.
        let no : Some call.numbered.0 ≡ None = sym (next_there it old call.ready tells ∙ call.numbered.1) ∙ none in absurd (cc);
    unwritten = λ is. absurd (written is);
    refused = λ tells input before commits graph is saves unfit.
        let same : text ≡ input = cc in
        absurd (unfit (subst (λ (t : List ℕ). IsConforming t graph) same
        (as_saved it old call.ready tells before commits graph saves (λ t n g. IsConforming text g) (resolved, answer_ok text resolved conforming.0, conforming.1))));
    beside = λ tells area is.
        let some : Some it.journal.area ≡ Some area = sym (area_there it old call.ready tells) ∙ is in
        let same : it.journal.area ≡ area = cc in
        subst (λ (a : Area). KeepsArea (other a) old new) same beside;
    made = λ tells input before commits graph is saves so.
        let same : text ≡ input = cc in
        subst (λ (t : List ℕ). IsRenewed (kept_of old commits graph) t new.shown) same
        (as_saved it old call.ready tells before commits graph saves (λ t n g. IsRenewed (kept_of old n g) text new.shown) (made tells (chosen_next old.shown.a old.shown.b) input graph so));
    unput = λ is. absurd (said is);
  }

  -- an area failed
  pub evolves_failed : (told : Told Status) → CountsFault true old mid → IsFitting it.guard text → EvolvesText told text old mid DiskFault
  evolves_failed told rose fits = record {
    answers = answers_failed told old mid shown rose call.beside.no_put.put_faults;
    leaves = leaves_written fits.0 fits.1 mid DiskFault call.beside.passes during grows other_area (λ no. no) (λ no. no) (λ tells next input graph made. absurd made);
    settles = λ settled no. absurd (no refl);
  }

  -- the schema is in force, and then its line was put
  module _ (guard : GuardState) (after : Journal) (done : IsEvolved it.guard guard it.journal after text mid) (line : List ℕ) (result : Status) (new : View) (put : PutsReply line Accepted PutFault mid result new) where
    in_force : IsTrue old.tells_bytes → IsRenewed it_kept text mid.shown
    in_force tells =
        renewed_in it old call.ready tells mid.shown text done.resolved done.conforming
        (subst (λ (g : GuardState). IsSavedIn g (longer it.journal (Schema text)) mid.shown) done.guard
        (subst (λ (j : Journal). IsSavedIn guard j mid.shown) done.journal (done.stands.saved (call.beside.passes.tells_bytes ∙ tells))))

    settled_mid : IsSettled old → IsSettled mid
    settled_mid settled = done.stands.settled (call.beside.passes.honest ∙ settled.honest) (call.beside.passes.tells_bytes ∙ settled.tells_bytes)

    -- while the line was put
    renewed_then : IsSettled old → (c : Triple) → new.left_since mid.moment c → IsRenewed it_kept text c
    renewed_then settled c left =
        let there = settled_mid settled in
        let from = put.stops there.honest c left in
        same_renewed it_kept text mid.shown c (from.2.a ∙ there.a from.0 from.1) (from.2.b ∙ there.b from.0 from.1) (in_force settled.tells_bytes)

    putting : IsTrue old.tells_output → IsSettled old → EachSince (IsEvolvingAt it_kept it.guard.text text) mid new
    putting tells settled c left =
        let honest = (settled_mid settled).honest in
        let from = put.stops honest c left in
        let renewed = renewed_then settled c left in
        record {
          front = from.2.front;
          out = from.2.added
              ∙ ap (λ (output : List ℕ). output ++ from.2.front) (call.beside.passes.timed.output honest (call.beside.passes.tells_output ∙ tells) from.0 from.1 ∙ call.beside.shown.output);
          state = inr renewed;
          evolved = λ read is said. renewed;
        }

    written : EndsReply line Accepted PutFault mid result new → IsUnwritten result → ⊥
    written (inl whole) is = subst IsUnwritten whole.0 is
    written (inr torn) is = subst IsUnwritten torn.0 is

    said : EndsReply line Accepted PutFault mid result new → IsUnput result → ⊥
    said (inl whole) is = subst IsUnput whole.0 is
    said (inr torn) is = subst IsUnput torn.0 is

    pub evolves_made : (told : Told Status) → told ≡ told_line line Accepted → mid.area_faults ≡ old.area_faults → EvolvesText told text old new result
    evolves_made told is areas = record {
      answers = answers_line told line Accepted result old mid new (record { shown = shown; area_faults = areas; put_faults = call.beside.no_put.put_faults }) tt tt is
          (line_of_reply line Accepted mid result new put);
      leaves = leaves_written done.resolved done.conforming new result (passes_on old mid new call.beside.passes put.areas.passes)
          (λ tells settled. each_on old mid new (IsEvolvingAt it_kept it.guard.text text) call.beside.passes put.areas.passes (during tells settled) (putting tells settled))
          (λ settled. each_on old mid new (IsEvolving it_kept it.guard.text) call.beside.passes put.areas.passes (grows settled) (λ c left. inr (text, renewed_then settled c left)))
          (area_on (other it.journal.area) old mid new other_area (area_of_images (other it.journal.area) mid new (images_areas mid new put.areas))) (written put.ends) (said put.ends)
          (λ tells next input graph made. same_renewed it_kept text mid.shown new.shown put.areas.a put.areas.b (in_force tells));
      settles = λ settled no. settled_images mid new (settled_mid settled) (images_areas mid new put.areas);
    }
