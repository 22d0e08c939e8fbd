-- What images save that hold the store of a state.
use Rattle.std.proofs.Common.{◌≡◌, ◌⊎◌, inl, inr, ⊎_elim, ℕ, Bool, List, [], ◌∷◌, ◌++◌, Some, Ok, IsTrue, refl, sym, ap, subst, ◌∙◌, append_assoc}
use Rattle.std.proofs.lemmas.List.{append-nil}
use Rattle.std.specs.List.{concat}
use Rattle.pgs_base.specs.declared.limits.Limits.{Limits}
use Rattle.pgs_base.specs.Graph.{Graph}
use Rattle.pgs_journal.specs.declared.journal.Journal.{Journal}
use Rattle.pgs_snapshot.specs.Choice.{chosen_area, chosen_epoch, area_chosen, epoch_chosen}
use Rattle.pgs_snapshot.specs.Choice as choices
use Rattle.pgs_snapshot.specs.Saved.{saved, store}
use Rattle.pgs_store.specs.State.{GuardState}
use Rattle.pgs_store.specs.Stored.{StoreState, IsSavedIn}
use Rattle.pgs_syntax.specs.declared.resolved.Resolved.{Resolved}
use Rattle.pgs_violation.specs.Violations.{verdict}
use Rattle.pgs_world.specs.declared.area.Area.{Area}
use Rattle.pgs_world.specs.World.{Triple}
use Rattle.pgs_run_input.specs.Answers.{schema_answer}
use Rattle.pgs_run_input.specs.Session.{Standing, standard}
use Rattle.pgs_run_store.specs.Opening.{saved_in}
use Rattle.pgs_run_store.specs.Refusing.{SavedStore}
use Rattle.pgs_run_store.proofs.Conforming.{chosen_saves, saved_conforms}
use Rattle.pgs_run_apply.specs.Applying.{IsLeft, IsWithin}
use Rattle.pgs_run_apply.specs.Outcome.{Outcome, outcome_of_all}
use Rattle.pgs_run_apply.specs.Run.{Saves, SavesAt, SavesOn, SavesNext, SavesAll, IsAppliedAt, IsGrown}
use Rattle.pgs_run_apply.specs.Told.{after, verdicts, all_lines}
use Rattle.pgs_run_apply.specs.RuleLaws.{outcome_append}
use Rattle.pgs_run_apply.proofs.Following.{follows_at}
use Rattle.pgs_run_apply.proofs.Machine.{first_state, told_follows}

-- the images hold some store of this area and epoch
pub record Chooses (journal : Journal) (triple : Triple) : Type 0 where
  pub area : chosen_area triple.a triple.b ≡ Some journal.area
  pub epoch : chosen_epoch triple.a triple.b ≡ Some journal.epoch

pub chooses : (guard : GuardState) (journal : Journal) (triple : Triple) → IsSavedIn guard journal triple → Chooses journal triple
chooses guard journal triple is = record { area = ap area_chosen is.1.has.choice; epoch = ap epoch_chosen is.1.has.choice }

saved_in_images : (guard : GuardState) (journal : Journal) (triple : Triple) → IsSavedIn guard journal triple → saved guard.limits triple.a triple.b ≡ store guard.text guard.commits guard.graph
saved_in_images guard journal triple is =
    chosen_saves guard.limits triple.a triple.b (choices.chosen journal.area journal.epoch journal.end journal.next is.0) is.1.has.choice ∙ is.1.saves

store_as : (text same_text : List ℕ) (at same : Standing) → text ≡ same_text → at ≡ same → store text at.commits at.graph ≡ store same_text same.commits same.graph
store_as text same_text at same t s = ap (λ (x : List ℕ). store x at.commits at.graph) t ∙ ap (λ (x : Standing). store same_text x.commits x.graph) s

module _ (it : StoreState) (limits : it.guard.limits ≡ standard) (of_text : schema_answer it.guard.text ≡ Ok it.guard.schema) (was : Triple) (chosen : Chooses it.journal was) where
  abbrev HoldsAfter : List (List ℕ) → Triple → Type 0
  HoldsAfter lines triple = let s = (outcome_of_all (first_state it) lines).state in IsSavedIn s.guard s.journal triple

  -- the images hold the store of the state after lines
  pub saves_on : (lines : List (List ℕ)) (triple : Triple) → HoldsAfter lines triple → SavesOn (saved_in it) (after (saved_in it) lines) was triple
  saves_on lines triple held =
      let t = (outcome_of_all (first_state it) lines).state in
      let follows = told_follows it lines in
      let at = after (saved_in it) lines in
      let now = chooses t.guard t.journal triple held in
      let saves : saved standard triple.a triple.b ≡ store it.guard.text at.commits at.graph =
      ap (λ (l : Limits). saved l triple.a triple.b) (sym (follows.limits ∙ limits))
      ∙ saved_in_images t.guard t.journal triple held
      ∙ store_as t.guard.text it.guard.text (record { number = t.number; commits = t.guard.commits; refused = t.refused; graph = t.guard.graph }) at follows.text follows.standing in
      record {
        saves = record { saves = saves; conforms = saved_conforms standard triple.a triple.b it.guard.text at.commits at.graph it.guard.schema saves of_text };
        area = now.area ∙ ap (λ (area : Area). Some area) follows.area ∙ sym chosen.area;
        epoch = now.epoch ∙ ap (λ (epoch : ℕ). Some epoch) follows.epoch ∙ sym chosen.epoch;
      }

  held_next : (until later : List (List ℕ)) (told : Bool) (output : List ℕ) (triple : Triple) → (within : IsWithin (outcome_of_all (first_state it) until).state later told output triple) → HoldsAfter (until ++ within.line ∷ []) triple
  held_next until later told output triple within =
      subst (λ (o : Outcome). IsSavedIn o.state.guard o.state.journal triple) (sym (outcome_append (first_state it) until (within.line ∷ []))) within.past.saved.1

  -- what a stop inside the lines leaves, whatever is told
  pub left_grown : (lines : List (List ℕ)) (told : Bool) (output : List ℕ) (triple : Triple) → IsLeft (first_state it) lines told output triple → IsGrown (saved_in it) was triple
  left_grown lines told output triple left =
      ⊎_elim (λ even. grown left.until even.1)
      (λ within. grown (left.until ++ within.line ∷ []) (held_next left.until left.later told (output ++ concat (outcome_of_all (first_state it) left.until).pieces) triple within)) left.state
    where
      grown : (lines : List (List ℕ)) → HoldsAfter lines triple → IsGrown (saved_in it) was triple
      grown lines held = record { lines = lines; saves = saves_on lines triple held }

  module _ (input : List ℕ) (lost : ℕ) (triple : Triple) where
    -- a state after lines, by what is out
    pub applied_at : (until later : List (List ℕ)) (front : List ℕ) (at : Standing) → all_lines input ≡ until ++ later → triple.output ≡ was.output ++ (concat (verdicts (saved_in it) until) ++ front) → SavesOn (saved_in it) at was triple
        → ((front ≡ []) × SavesAt (saved_in it) (after (saved_in it) until) triple) ⊎ (SavesNext (saved_in it) until later front triple ⊎ SavesAll (saved_in it) lost until later front triple)
        → IsAppliedAt was (saved_in it) input lost triple
    applied_at until later front at parts out on state =
        record { until = until; later = later; parts = parts; front = front; out = out; state = state; area = on.area; epoch = on.epoch }

    -- what a stop inside the lines leaves
    pub left_applied : (told : Bool) → IsTrue told → IsLeft (first_state it) (all_lines input) told was.output triple → IsAppliedAt was (saved_in it) input lost triple
    left_applied told tells left = ⊎_elim even within left.state
      where
        o : Outcome
        o = outcome_of_all (first_state it) left.until

        out : List ℕ
        out = was.output ++ concat o.pieces

        said : concat o.pieces ≡ concat (verdicts (saved_in it) left.until)
        said = ap (λ (pieces : List (List ℕ)). concat pieces) (told_follows it left.until).pieces

        behind : (front : List ℕ) → out ++ front ≡ was.output ++ (concat (verdicts (saved_in it) left.until) ++ front)
        behind front = append_assoc was.output (concat o.pieces) front ∙ ap (λ (bytes : List ℕ). was.output ++ (bytes ++ front)) said

        even : (IsTrue told → triple.output ≡ out) × IsSavedIn o.state.guard o.state.journal triple → IsAppliedAt was (saved_in it) input lost triple
        even saved =
            let on = saves_on left.until triple saved.1 in
            applied_at left.until left.later [] (after (saved_in it) left.until) left.parts (saved.0 tells ∙ sym (append-nil out) ∙ behind []) on (inl (refl, on.saves))

        within : IsWithin o.state left.later told out triple → IsAppliedAt was (saved_in it) input lost triple
        within at =
            let lines = left.until ++ at.line ∷ [] in
            let on = saves_on lines triple (held_next left.until left.later told out triple at) in
            let follows = told_follows it left.until in
            let line = follows_at (verdict it.guard.schema) (after (saved_in it) left.until) o.state at.line (ap verdict follows.schema) follows.standing in
            applied_at left.until left.later at.past.front (after (saved_in it) lines) left.parts (at.past.saved.0 tells ∙ behind at.past.front) on
            (inr (inl (record { line = at.line; more = at.more; next = at.next; back = at.past.back; piece = sym line.pieces ∙ at.past.piece; saves = on.saves })))

-- ---- the store that is known to be saved is the one that is opened

same_schema : (text other : List ℕ) (schema found : Resolved) → other ≡ text → schema_answer text ≡ Ok schema → schema_answer other ≡ Ok found → found ≡ schema
same_schema text other schema found is one two = let same : schema_answer other ≡ Ok schema = ap schema_answer is ∙ one in cc

abbrev store_with : List ℕ → Resolved → ℕ → Graph → SavedStore
store_with text schema commits graph = record { text = text; schema = schema; commits = commits; graph = graph }

pub same_store : (guard : GuardState) (it : SavedStore) (triple : Triple) → Saves it triple → saved standard triple.a triple.b ≡ store guard.text guard.commits guard.graph → schema_answer guard.text ≡ Ok guard.schema → store_with guard.text guard.schema guard.commits guard.graph ≡ it
same_store guard it triple known opened of_text =
    let same : store guard.text guard.commits guard.graph ≡ store it.text it.commits it.graph = sym opened ∙ known.saves in
    let text : guard.text ≡ it.text = cc in
    let commits : guard.commits ≡ it.commits = cc in
    let graph : guard.graph ≡ it.graph = cc in
    ap (λ (x : List ℕ). store_with x guard.schema guard.commits guard.graph) text
    ∙ ap (λ (x : Resolved). store_with it.text x guard.commits guard.graph) (same_schema it.text guard.text it.schema guard.schema text known.schema of_text)
    ∙ ap (λ (x : ℕ). store_with it.text it.schema x guard.graph) commits
    ∙ ap (λ (x : Graph). store_with it.text it.schema it.commits x) graph
