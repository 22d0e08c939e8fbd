-- A graph that is saved conforms to the schema that is saved.
use Rattle.std.proofs.Common.{◌≡◌, ℕ, suc, ◌+◌, Bool, true, false, nat_lt, cond, List, [], ◌∷◌, drop, Option, Some, None, Result, Ok, Err, refl, sym, ◌∙◌, ap, subst}
use Rattle.pgs_base.specs.declared.limits.Limits.{Limits}
use Rattle.pgs_base.specs.Graph.{Graph, element_count}
use Rattle.pgs_codec.specs.declared.command.Command.{Command}
use Rattle.pgs_codec.specs.declared.command.Command.TheVariants.{Schema, Txn as Transaction, Snapshot}
use Rattle.pgs_codec.specs.Encodable.{snapshot_graph}
use Rattle.pgs_codec.specs.Reading.{decoded}
use Rattle.pgs_graph.specs.declared.operation.Txn.{Txn}
use Rattle.pgs_resolve.specs.SchemaOf.{Answer, longer_than_allowed, begins_no_item, is_no_statement, refused, has_wide_type, schema, schema_of}
use Rattle.pgs_snapshot.specs.Choice.{Choice, choice_of}
use Rattle.pgs_snapshot.specs.Choice as choices
use Rattle.pgs_snapshot.specs.Saved.{Replayed, RecordFault, History, taken, under_schema, after_record, and_then, replay, saved_by, saved_fault, saved_history, saved_of, saved_under, saved, start, store, text_of}
use Rattle.pgs_snapshot.specs.Saved as saving
use Rattle.pgs_store.proofs.Opened.{empty_conforms}
use Rattle.pgs_syntax.specs.declared.resolved.Resolved.{Resolved}
use Rattle.pgs_violation.specs.declared.rejection.Rejection.{Rejection}
use Rattle.pgs_violation.specs.declared.structural.Structural.{Structural}
use Rattle.pgs_violation.specs.declared.structural.Structural.TheVariants.{TooManyElements}
use Rattle.pgs_violation.specs.declared.rejection.Rejection.TheVariants.{Structural as ByStructure}
use Rattle.pgs_violation.specs.declared.violation.Verdict.{Verdict}
use Rattle.pgs_violation.specs.declared.violation.Verdict.TheVariants.{Conforms, Refused}
use Rattle.pgs_violation.specs.Decision.{conforming, judged, judging, decide}
use Rattle.pgs_violation.specs.Staging.{staged}
use Rattle.pgs_violation.specs.Violations.{verdict}
use Rattle.pgs_run_input.specs.Answers.{schema_answer, schema_or_text}

-- ---- what is accepted conforms

module _ (limits : Limits) (judge : Graph → Verdict) where
  by_verdict : (g next : Graph) (found : Verdict) → judge g ≡ found → conforming g found ≡ Ok next → judge next ≡ Conforms
  by_verdict g next Conforms is taken = let same : g ≡ next = cc in subst (λ (n : Graph). judge n ≡ Conforms) same is
  by_verdict g next (Refused violation) is taken = cc

  by_count : (g next : Graph) (many : Bool) → cond many (Err (ByStructure (TooManyElements (element_count g)))) (conforming g (judge g)) ≡ Ok next → judge next ≡ Conforms
  by_count g next true taken = cc
  by_count g next false taken = by_verdict g next (judge g) refl taken

  judged_conforms : (g next : Graph) → judged limits judge g ≡ Ok next → judge next ≡ Conforms
  judged_conforms g next taken = by_count g next (nat_lt limits.elements (element_count g)) taken

  by_staged : (next : Graph) (found : Result Graph Structural) → judging limits judge found ≡ Ok next → judge next ≡ Conforms
  by_staged next (Ok g) taken = judged_conforms g next taken
  by_staged next (Err structural) taken = cc

  decided_conforms : (g next : Graph) (txn : Txn) → decide limits judge g txn ≡ Ok next → judge next ≡ Conforms
  decided_conforms g next txn taken = by_staged next (staged limits g txn) taken

-- ---- record by record

-- a state's schema is that of its text, and its graph conforms to it
abbrev pub IsSound : Replayed → Type 0
IsSound state = (schema_of state.text ≡ schema state.schema) × (verdict state.schema state.graph ≡ Conforms)

no_error : {A E : Type 0} (e : E) (a : A) → Err e ≡ Ok a → ⊥
no_error {A} {E} e a is = let r : Result A E = Ok a in let h : Err e ≡ r = is in cc

same_ok : {A E : Type 0} (x y : A) → (let r : Result A E = Ok x in r) ≡ Ok y → x ≡ y
same_ok x y is = cc

sound_taken : (before after : Replayed) (answer : Result Graph Rejection) → schema_of before.text ≡ schema before.schema → ((g : Graph) → answer ≡ Ok g → verdict before.schema g ≡ Conforms)
    → taken before answer ≡ Ok after → IsSound after
sound_taken before after (Ok graph) of follows is = subst IsSound (same_ok (record before { graph = graph }) after is) (of, follows graph refl)
sound_taken before after (Err rejection) of follows is = absurd (no_error (saving.rejected rejection) after is)

module _ (limits : Limits) where
  sound_under : (before after : Replayed) (text : List ℕ) (answer : Answer) → schema_of text ≡ answer → under_schema limits before text answer ≡ Ok after → IsSound after
  sound_under before after text (schema resolved) of is =
      sound_taken (record before { text = text; schema = resolved }) after (judged limits (verdict resolved) before.graph) of
      (λ g accepted. judged_conforms limits (verdict resolved) before.graph g accepted) is
  sound_under before after text longer_than_allowed of is = absurd (no_error (saving.refused longer_than_allowed) after is)
  sound_under before after text (begins_no_item line) of is = absurd (no_error (saving.refused (begins_no_item line)) after is)
  sound_under before after text (is_no_statement n) of is = absurd (no_error (saving.refused (is_no_statement n)) after is)
  sound_under before after text (refused fault) of is = absurd (no_error (saving.refused (refused fault)) after is)
  sound_under before after text (has_wide_type name) of is = absurd (no_error (saving.refused (has_wide_type name)) after is)

  sound_record : (before after : Replayed) (command : Option Command) → IsSound before → after_record limits before command ≡ Ok after → IsSound after
  sound_record before after None sound is = subst IsSound (same_ok before after is) sound
  sound_record before after (Some (Schema text)) sound is = sound_under before after text (schema_of text) refl is
  sound_record before after (Some (Transaction txn)) sound is =
      sound_taken (record before { commits = before.commits + 1 }) after (decide limits (verdict before.schema) before.graph txn) sound.0
      (λ g accepted. decided_conforms limits (verdict before.schema) before.graph g txn accepted) is
  sound_record before after (Some (Snapshot commits nodes edges)) sound is =
      sound_taken (record before { commits = commits }) after (judged limits (verdict before.schema) (snapshot_graph nodes edges)) sound.0
      (λ g accepted. judged_conforms limits (verdict before.schema) (snapshot_graph nodes edges) g accepted) is

  -- what some records lead to
  sound_replay : (number : ℕ) (before after : Replayed) (payloads : List (List ℕ)) → IsSound before → replay limits number before payloads ≡ Ok after → IsSound after
  sound_replay number before after [] sound is = subst IsSound (same_ok before after is) sound
  sound_replay number before after (payload ∷ payloads) sound is =
      at (after_record limits before (decoded payload)) refl is (λ middle known rest. sound_replay (suc number) middle after payloads known rest)
    where
      at : (r : Result Replayed RecordFault) → after_record limits before (decoded payload) ≡ r → and_then number r (λ middle. replay limits (suc number) middle payloads) ≡ Ok after
          → ((middle : Replayed) → IsSound middle → replay limits (suc number) middle payloads ≡ Ok after → IsSound after) → IsSound after
      at (Ok middle) of rest more = more middle (sound_record before middle (decoded payload) sound of) rest
      at (Err fault) of rest more = absurd (no_error (number, fault) after rest)

-- ---- what is saved

-- the text is a schema's, and the graph conforms to it
pub record Conforming (text : List ℕ) (graph : Graph) : Type 0 where
  pub resolved : Resolved
  pub of_text : schema_of text ≡ schema resolved
  pub conforms : verdict resolved graph ≡ Conforms

by_fault : (number : ℕ) (fault : RecordFault) (text : List ℕ) (commits : ℕ) (graph : Graph) → saved_fault number fault ≡ store text commits graph → Conforming text graph
by_fault number (saving.refused answer) text commits graph is = absurd (cc)
by_fault number (saving.rejected rejection) text commits graph is = absurd (cc)

by_history : (text : List ℕ) (commits : ℕ) (graph : Graph) (history : History) → saved_history history ≡ store text commits graph → ((end : Replayed) → history ≡ Ok end → IsSound end) → Conforming text graph
by_history text commits graph (Ok end) is follows =
    let sound = follows end refl in
    let text_is : end.text ≡ text = cc in
    let graph_is : end.graph ≡ graph = cc in
    record {
      resolved = end.schema;
      of_text = subst (λ (t : List ℕ). schema_of t ≡ schema end.schema) text_is sound.0;
      conforms = subst (λ (g : Graph). verdict end.schema g ≡ Conforms) graph_is sound.1;
    }
by_history text commits graph (Err fault) is follows = by_fault fault.0 fault.1 text commits graph is

by_answer : (limits : Limits) (text at : List ℕ) (commits : ℕ) (graph : Graph) (payloads : List (List ℕ)) (answer : Answer) → schema_of at ≡ answer → saved_under limits at payloads answer ≡ store text commits graph → Conforming text graph
by_answer limits text at commits graph payloads (schema resolved) of_text is =
    by_history text commits graph (replay limits 2 (start at resolved) payloads) is
    (λ end replays. sound_replay limits 2 (start at resolved) end payloads (of_text, empty_conforms resolved) replays)
by_answer limits text at commits graph payloads longer_than_allowed of_text is = absurd (cc)
by_answer limits text at commits graph payloads (begins_no_item line) of_text is = absurd (cc)
by_answer limits text at commits graph payloads (is_no_statement n) of_text is = absurd (cc)
by_answer limits text at commits graph payloads (refused fault) of_text is = absurd (cc)
by_answer limits text at commits graph payloads (has_wide_type name) of_text is = absurd (cc)

by_payloads : (limits : Limits) (text : List ℕ) (commits : ℕ) (graph : Graph) (payloads : List (List ℕ)) → saved_of limits payloads ≡ store text commits graph → Conforming text graph
unfolding saved_of
by_payloads limits text commits graph payloads is = by_answer limits text (text_of payloads) commits graph (drop 1 payloads) (schema_of (text_of payloads)) refl is

by_choice : (limits : Limits) (text : List ℕ) (commits : ℕ) (graph : Graph) (choice : Choice) → saved_by limits choice ≡ store text commits graph → Conforming text graph
by_choice limits text commits graph choices.foreign is = absurd (cc)
by_choice limits text commits graph choices.no_store is = absurd (cc)
by_choice limits text commits graph (choices.damaged area epoch number) is = absurd (cc)
by_choice limits text commits graph (choices.chosen area epoch end next payloads) is = by_payloads limits text commits graph payloads is

pub chosen_saves : (limits : Limits) (a b : List ℕ) (choice : Choice) → choice_of a b ≡ choice → saved limits a b ≡ saved_by limits choice
unfolding saved
chosen_saves limits a b choice is = ap (saved_by limits) is

pub saved_conforming : (limits : Limits) (a b text : List ℕ) (commits : ℕ) (graph : Graph) → saved limits a b ≡ store text commits graph → Conforming text graph
saved_conforming limits a b text commits graph saves =
    by_choice limits text commits graph (choice_of a b) (sym (chosen_saves limits a b (choice_of a b) refl) ∙ saves)

answer_is : (text : List ℕ) (resolved other : Resolved) → schema_of text ≡ schema resolved → schema_answer text ≡ Ok other → resolved ≡ other
unfolding schema_answer
answer_is text resolved other of_text is = let same : schema_or_text (schema resolved) ≡ Ok other = ap schema_or_text (sym of_text) ∙ is in cc

pub saved_conforms : (limits : Limits) (a b text : List ℕ) (commits : ℕ) (graph : Graph) (resolved : Resolved) → saved limits a b ≡ store text commits graph → schema_answer text ≡ Ok resolved → verdict resolved graph ≡ Conforms
saved_conforms limits a b text commits graph resolved saves is =
    let found = saved_conforming limits a b text commits graph saves in
    subst (λ (r : Resolved). verdict r graph ≡ Conforms) (answer_is text found.resolved resolved found.of_text is) found.conforms
