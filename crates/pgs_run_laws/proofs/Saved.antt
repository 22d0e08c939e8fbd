-- What two areas of bytes save is a graph within the limits whose rows are small.
use Rattle.std.proofs.Common.{◌≡◌, ℕ, suc, ◌+◌, ◌≤◌, ◌^◌, Bool, true, false, nat_lt, cond, List, [], ◌∷◌, length, drop, Option, Some, None, Result, Ok, Err, refl, subst, arith}
use Rattle.std.specs.List.{AllByRecursion, list_all}
use Rattle.std.proofs.lemmas.Bool.{and_parts, ltb-false}
use Rattle.pgs_base.specs.declared.limits.Limits.{Limits}
use Rattle.pgs_base.specs.Graph.{Graph, element_count, empty_graph, is_graph}
use Rattle.pgs_codec.specs.declared.command.Command.{Command}
use Rattle.pgs_codec.specs.declared.command.Command.TheVariants.{Schema, Txn as Transaction, Snapshot}
use Rattle.pgs_codec.specs.Encodable.{snapshot_graph, is_op, is_encodable}
use Rattle.pgs_codec.specs.Reading.{decoded}
use Rattle.pgs_codec.proofs.Commands.{decoded_takes}
use Rattle.pgs_codec.proofs.Exact.{IsBytes}
use Rattle.pgs_codec.proofs.Sizes.{encodable_sized}
use Rattle.pgs_graph.specs.declared.operation.Txn.{Txn}
use Rattle.pgs_graph.specs.Operations.{is_well_formed_txn}
use Rattle.pgs_saved_graph.specs.Small.{has_small_rows}
use Rattle.pgs_saved_graph.proofs.Steps.{staged_small}
use Rattle.pgs_resolve.specs.SchemaOf.{Answer, longer_than_allowed, begins_no_item, is_no_statement, refused, has_wide_type, schema, schema_of}
use Rattle.pgs_snapshot.specs.Choice.{Choice, choice_of}
use Rattle.pgs_snapshot.specs.Choice as choices
use Rattle.pgs_snapshot.specs.Saved.{Replayed, RecordFault, History, taken, under_schema, after_record, and_then, replay, saved_by, saved_fault, saved_history, saved_of, saved_under, saved, start, store, text_of}
use Rattle.pgs_snapshot.specs.Saved as saving
use Rattle.pgs_violation.specs.declared.rejection.Rejection.{Rejection}
use Rattle.pgs_violation.specs.declared.rejection.Rejection.TheVariants.{Structural as ByStructure}
use Rattle.pgs_violation.specs.declared.structural.Structural.{Structural}
use Rattle.pgs_violation.specs.declared.structural.Structural.TheVariants.{TooManyElements}
use Rattle.pgs_violation.specs.declared.violation.Verdict.{Verdict}
use Rattle.pgs_violation.specs.declared.violation.Verdict.TheVariants.{Conforms, Refused}
use Rattle.pgs_violation.specs.Decision.{conforming, judged, judging, decide}
use Rattle.pgs_violation.specs.Staging.{staged}
use Rattle.pgs_violation.specs.Violations.{verdict}
use Rattle.pgs_violation.proofs.StagedGraph.{staged_graph}
use Rattle.pgs_run_laws.proofs.Areas.{chosen_is_bytes}
use Rattle.pgs_run_laws.proofs.Formed.{ops_formed}

-- a graph with so many elements at most, and with small rows
pub record IsSaveable (limits : Limits) (g : Graph) : Type 0 where
  pub graph : is_graph g ≡ true
  pub small : has_small_rows g ≡ true
  pub within : element_count g ≤ limits.elements

empty_is : (limits : Limits) → IsSaveable limits empty_graph
empty_is limits = record { graph = refl; small = refl; within = omega arith }

module _ (limits : Limits) (judge : Graph → Verdict) where
  -- ---- what is judged is the graph itself

  by_verdict : (g next : Graph) (found : Verdict) → conforming g found ≡ Ok next → g ≡ next
  by_verdict g next Conforms taken = cc
  by_verdict g next (Refused violation) taken = cc

  by_count : (g next : Graph) (many : Bool) → nat_lt limits.elements (element_count g) ≡ many
      → cond many (Err (ByStructure (TooManyElements (element_count g)))) (conforming g (judge g)) ≡ Ok next
      → (g ≡ next) × (element_count g ≤ limits.elements)
  by_count g next true is taken = absurd (cc)
  by_count g next false is taken = (by_verdict g next (judge g) taken, ltb-false limits.elements (element_count g) is)

  judged_is : (g next : Graph) → judged limits judge g ≡ Ok next → is_graph g ≡ true → has_small_rows g ≡ true → IsSaveable limits next
  judged_is g next taken graph small =
      let found = by_count g next (nat_lt limits.elements (element_count g)) refl taken in
      subst (IsSaveable limits) found.0 (record { graph = graph; small = small; within = found.1 })

  by_staged : (g next : Graph) (txn : Txn) (found : Result Graph Structural) → staged limits g txn ≡ found → is_well_formed_txn txn ≡ true
      → IsSaveable limits g → judging limits judge found ≡ Ok next → IsSaveable limits next
  by_staged g next txn (Ok after) is formed before taken =
      judged_is after next taken (staged_graph limits g after txn formed is before.graph) (staged_small limits g after txn is before.small)
  by_staged g next txn (Err structural) is formed before taken = absurd (cc)

-- ---- record by record

no_error : {A E : Type 0} (e : E) (a : A) → Err e ≡ Ok a → ⊥
no_error {A} {E} e a is = let r : Result A E = Ok a in let h : Err e ≡ r = is in cc

same_ok : {A E : Type 0} (x y : A) → (let r : Result A E = Ok x in r) ≡ Ok y → x ≡ y
same_ok x y is = cc

module _ (limits : Limits) where
  by_decision : (before after : Replayed) (decision : Result Graph Rejection) → ((next : Graph) → decision ≡ Ok next → IsSaveable limits next)
      → taken before decision ≡ Ok after → IsSaveable limits after.graph
  by_decision before after (Ok graph) follows is =
      subst (λ (a : Replayed). IsSaveable limits a.graph) (same_ok (record before { graph = graph }) after is) (follows graph refl)
  by_decision before after (Err rejection) follows is = absurd (no_error (saving.rejected rejection) after is)

  schema_keeps : (before after : Replayed) (text : List ℕ) (answer : Answer) → under_schema limits before text answer ≡ Ok after
      → IsSaveable limits before.graph → IsSaveable limits after.graph
  schema_keeps before after text (schema resolved) is so =
      by_decision (record before { text = text; schema = resolved }) after (judged limits (verdict resolved) before.graph)
      (λ next accepted. judged_is limits (verdict resolved) before.graph next accepted so.graph so.small) is
  schema_keeps before after text longer_than_allowed is so = absurd (no_error (saving.refused longer_than_allowed) after is)
  schema_keeps before after text (begins_no_item line) is so = absurd (no_error (saving.refused (begins_no_item line)) after is)
  schema_keeps before after text (is_no_statement n) is so = absurd (no_error (saving.refused (is_no_statement n)) after is)
  schema_keeps before after text (refused fault) is so = absurd (no_error (saving.refused (refused fault)) after is)
  schema_keeps before after text (has_wide_type name) is so = absurd (no_error (saving.refused (has_wide_type name)) after is)

  command_keeps : (before after : Replayed) (command : Option Command) → ((c : Command) → command ≡ Some c → is_encodable c ≡ true)
      → after_record limits before command ≡ Ok after → IsSaveable limits before.graph → IsSaveable limits after.graph
  unfolding is_encodable
  command_keeps before after None encodable is so = subst (λ (a : Replayed). IsSaveable limits a.graph) (same_ok before after is) so
  command_keeps before after (Some (Schema text)) encodable is so = schema_keeps before after text (schema_of text) is so
  command_keeps before after (Some (Transaction txn)) encodable is so =
      let formed = ops_formed txn.ops (and_parts (nat_lt (length txn.ops) (2 ^ 32)) (list_all is_op txn.ops) (encodable (Transaction txn) refl)).1 in
      by_decision (record before { commits = before.commits + 1 }) after (decide limits (verdict before.schema) before.graph txn)
      (λ next accepted. by_staged limits (verdict before.schema) before.graph next txn (staged limits before.graph txn) refl formed so accepted) is
  command_keeps before after (Some (Snapshot commits nodes edges)) encodable is so =
      let sized = and_parts (has_small_rows (snapshot_graph nodes edges)) (is_graph (snapshot_graph nodes edges))
      (encodable_sized (Snapshot commits nodes edges) (encodable (Snapshot commits nodes edges) refl)) in
      by_decision (record before { commits = commits }) after (judged limits (verdict before.schema) (snapshot_graph nodes edges))
      (λ next accepted. judged_is limits (verdict before.schema) (snapshot_graph nodes edges) next accepted sized.1 sized.0) is

  by_record : (number : ℕ) (before end : Replayed) (r : Result Replayed RecordFault) (go : Replayed → History) → and_then number r go ≡ Ok end
      → ((after : Replayed) → r ≡ Ok after → IsSaveable limits after.graph)
      → ((after : Replayed) → go after ≡ Ok end → IsSaveable limits after.graph → IsSaveable limits end.graph) → IsSaveable limits end.graph
  by_record number before end (Ok after) go is here later = later after is (here after refl)
  by_record number before end (Err fault) go is here later = absurd (no_error (number, fault) end is)

  replay_keeps : (number : ℕ) (before end : Replayed) (payloads : List (List ℕ)) → AllByRecursion IsBytes payloads → replay limits number before payloads ≡ Ok end
      → IsSaveable limits before.graph → IsSaveable limits end.graph
  replay_keeps number before end [] bytes replays so = subst (λ (a : Replayed). IsSaveable limits a.graph) (same_ok before end replays) so
  replay_keeps number before end (payload ∷ payloads) bytes replays so =
      by_record number before end (after_record limits before (decoded payload)) (λ after. replay limits (suc number) after payloads) replays
      (λ after is. command_keeps before after (decoded payload) (λ command found. (decoded_takes payload command bytes.0 found).encodable) is so)
      (λ after more there. replay_keeps (suc number) after end payloads bytes.1 more there)

-- ---- what is saved

-- what stands behind some of the payloads are bytes too
behind_first : (payloads : List (List ℕ)) → AllByRecursion IsBytes payloads → AllByRecursion IsBytes (drop 1 payloads)
behind_first [] bytes = tt
behind_first (payload ∷ payloads) bytes = bytes.1

module _ (limits : Limits) (text : List ℕ) (commits : ℕ) (graph : Graph) where
  by_fault : (number : ℕ) (fault : RecordFault) → saved_fault number fault ≡ store text commits graph → IsSaveable limits graph
  by_fault number (saving.refused answer) is = absurd (cc)
  by_fault number (saving.rejected rejection) is = absurd (cc)

  by_history : (history : History) → saved_history history ≡ store text commits graph
      → ((end : Replayed) → history ≡ Ok end → IsSaveable limits end.graph) → IsSaveable limits graph
  by_history (Ok end) is follows = let same : end.graph ≡ graph = cc in subst (IsSaveable limits) same (follows end refl)
  by_history (Err fault) is follows = by_fault fault.0 fault.1 is

  by_answer : (at : List ℕ) (payloads : List (List ℕ)) (answer : Answer) → AllByRecursion IsBytes payloads
      → saved_under limits at payloads answer ≡ store text commits graph → IsSaveable limits graph
  by_answer at payloads (schema resolved) bytes is =
      by_history (replay limits 2 (start at resolved) payloads) is
      (λ end replays. replay_keeps limits 2 (start at resolved) end payloads bytes replays (empty_is limits))
  by_answer at payloads longer_than_allowed bytes is = absurd (cc)
  by_answer at payloads (begins_no_item line) bytes is = absurd (cc)
  by_answer at payloads (is_no_statement n) bytes is = absurd (cc)
  by_answer at payloads (refused fault) bytes is = absurd (cc)
  by_answer at payloads (has_wide_type name) bytes is = absurd (cc)

  by_payloads : (payloads : List (List ℕ)) → AllByRecursion IsBytes payloads → saved_of limits payloads ≡ store text commits graph → IsSaveable limits graph
  unfolding saved_of
  by_payloads payloads bytes is = by_answer (text_of payloads) (drop 1 payloads) (schema_of (text_of payloads)) (behind_first payloads bytes) is

  by_choice : (a b : List ℕ) (choice : Choice) → IsBytes a → IsBytes b → choice_of a b ≡ choice → saved_by limits choice ≡ store text commits graph → IsSaveable limits graph
  by_choice a b choices.foreign one other of is = absurd (cc)
  by_choice a b choices.no_store one other of is = absurd (cc)
  by_choice a b (choices.damaged area epoch number) one other of is = absurd (cc)
  by_choice a b (choices.chosen area epoch end next payloads) one other of is = by_payloads payloads (chosen_is_bytes area epoch end next payloads a b one other of) is

  pub saved_is : (a b : List ℕ) → IsBytes a → IsBytes b → saved limits a b ≡ store text commits graph → IsSaveable limits graph
  unfolding saved
  saved_is a b one other is = by_choice a b (choice_of a b) one other refl is
