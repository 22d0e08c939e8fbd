-- What the records of a store lead to, one record after the other.
use Rattle.std.proofs.Common.{◌≡◌, ℕ, suc, ◌+◌, ◌-◌, ◌*◌, ◌^◌, ◌≤◌, Bool, true, false, List, [], ◌∷◌, ◌++◌, length, drop, Some, None, Ok, Err, refl, sym, ◌∙◌, ap, subst, arith, if◌then◌else◌}
use Rattle.std.specs.declared.option.Option.{Option}
use Rattle.std.specs.declared.result.Result.{Result}
use Rattle.pgs_base.specs.declared.element.EdgeId.{EdgeId}
use Rattle.pgs_base.specs.declared.element.NodeId.{NodeId}
use Rattle.pgs_base.specs.declared.limits.Limits.{Limits}
use Rattle.pgs_base.specs.declared.row.EdgeRow.{EdgeRow}
use Rattle.pgs_base.specs.declared.row.NodeRow.{NodeRow}
use Rattle.pgs_base.specs.Graph.{Graph, empty_graph}
use Rattle.pgs_codec.specs.declared.command.Command.{Command}
use Rattle.pgs_codec.specs.declared.command.Command.TheVariants.{Schema, Txn as Transaction, Snapshot}
use Rattle.pgs_codec.specs.Encodable.{snapshot_graph}
use Rattle.pgs_codec.specs.Reading.{decoded}
use Rattle.pgs_graph.specs.declared.operation.Txn.{Txn}
use Rattle.pgs_journal.specs.declared.format.Format.{Format}
use Rattle.pgs_journal.specs.Area.{is_fit, first_unfit, has_some}
use Rattle.pgs_journal.specs.Bounds.{IsBoundedStore}
use Rattle.pgs_journal.specs.Format.{format_of}
use Rattle.pgs_resolve.specs.SchemaOf.{Answer, longer_than_allowed, begins_no_item, is_no_statement, refused, has_wide_type, schema, schema_of}
use Rattle.pgs_syntax.specs.declared.resolved.Resolved.{Resolved}
use Rattle.pgs_violation.specs.declared.rejection.Rejection.{Rejection}
use Rattle.pgs_violation.specs.Decision.{judged, decide}
use Rattle.pgs_violation.specs.Violations.{verdict}
use Rattle.pgs_snapshot.specs.Saved.{store, bad_history, Replayed, RecordFault, History, taken, under_schema, after_record, and_then, replay, text_in, text_of, start, saved_fault, saved_history, saved_under, saved_of}
use Rattle.pgs_snapshot.specs.Saved as saving
use Rattle.pgs_snapshot.proofs.Fitness.{snapshot_within}

abbrev state_of : List ℕ → Resolved → ℕ → Graph → Replayed
state_of text resolved commits graph = record { text = text; schema = resolved; commits = commits; graph = graph }

no_error : {A E : Type 0} (e : E) (a : A) → Err e ≡ Ok a → ⊥
no_error {A} {E} e a is = let r : Result A E = Ok a in let h : Err e ≡ r = is in cc

same_ok : {A E : Type 0} (x y : A) → (let r : Result A E = Ok x in r) ≡ Ok y → x ≡ y
same_ok x y is = cc

same_schema : (r q : Resolved) → schema r ≡ schema q → r ≡ q
same_schema r q same = cc

-- where a graph is accepted, it comes into the state, and nothing else changes
taken_is : (before after : Replayed) (answer : Result Graph Rejection) → taken before answer ≡ Ok after → (graph : Graph) × (record before { graph = graph } ≡ after)
taken_is before after (Ok graph) is = (graph, same_ok (record before { graph = graph }) after is)
taken_is before after (Err rejection) is = absurd (no_error (saving.rejected rejection) after is)

-- ---- the schema in force is that of its text

abbrev IsInForce : Replayed → Type 0
IsInForce state = schema_of state.text ≡ schema state.schema

taken_in_force : (before after : Replayed) (answer : Result Graph Rejection) → IsInForce before → taken before answer ≡ Ok after → IsInForce after
taken_in_force before after answer has is = subst IsInForce (taken_is before after answer is).1 has

schema_in_force : (limits : Limits) (before after : Replayed) (text : List ℕ) (answer : Answer) → schema_of text ≡ answer → under_schema limits before text answer ≡ Ok after → IsInForce after
schema_in_force limits before after text (schema resolved) of is =
    taken_in_force (record before { text = text; schema = resolved }) after (judged limits (verdict resolved) before.graph) of is
schema_in_force limits before after text longer_than_allowed of is = absurd (no_error (saving.refused longer_than_allowed) after is)
schema_in_force limits before after text (begins_no_item line) of is = absurd (no_error (saving.refused (begins_no_item line)) after is)
schema_in_force limits before after text (is_no_statement n) of is = absurd (no_error (saving.refused (is_no_statement n)) after is)
schema_in_force limits before after text (refused fault) of is = absurd (no_error (saving.refused (refused fault)) after is)
schema_in_force limits before after text (has_wide_type name) of is = absurd (no_error (saving.refused (has_wide_type name)) after is)

record_in_force : (limits : Limits) (before after : Replayed) (command : Option Command) → IsInForce before → after_record limits before command ≡ Ok after → IsInForce after
record_in_force limits before after None has is = subst IsInForce (same_ok before after is) has
record_in_force limits before after (Some (Schema text)) has is = schema_in_force limits before after text (schema_of text) refl is
record_in_force limits before after (Some (Transaction txn)) has is =
    taken_in_force (record before { commits = before.commits + 1 }) after (decide limits (verdict before.schema) before.graph txn) has is
record_in_force limits before after (Some (Snapshot commits nodes edges)) has is =
    taken_in_force (record before { commits = commits }) after (judged limits (verdict before.schema) (snapshot_graph nodes edges)) has is

-- what some records lead to has the schema of its text
replay_in_force : (limits : Limits) (number : ℕ) (before after : Replayed) (payloads : List (List ℕ)) → IsInForce before → replay limits number before payloads ≡ Ok after → IsInForce after
replay_in_force limits number before after [] has is = subst IsInForce (same_ok before after is) has
replay_in_force limits number before after (payload ∷ payloads) has is =
    at (after_record limits before (decoded payload)) refl is (λ middle known rest. replay_in_force limits (suc number) middle after payloads known rest)
  where
    at : (r : Result Replayed RecordFault) → after_record limits before (decoded payload) ≡ r → and_then number r (λ middle. replay limits (suc number) middle payloads) ≡ Ok after
        → ((middle : Replayed) → IsInForce middle → replay limits (suc number) middle payloads ≡ Ok after → IsInForce after) → IsInForce after
    at (Ok middle) of rest more = more middle (record_in_force limits before middle (decoded payload) has of) rest
    at (Err fault) of rest more = absurd (no_error (number, fault) after rest)

-- ---- a saved store

-- what is known of the records of a store that is saved
record IsStore (limits : Limits) (text : List ℕ) (commits : ℕ) (graph : Graph) (payloads : List (List ℕ)) : Type 0 where
  first : Resolved
  of_first : schema_of (text_of payloads) ≡ schema first
  last : Resolved
  of_text : schema_of text ≡ schema last
  replays : replay limits 2 (start (text_of payloads) first) (drop 1 payloads) ≡ Ok (state_of text last commits graph)

history_stored : (history : History) (text : List ℕ) (commits : ℕ) (graph : Graph) → saved_history history ≡ store text commits graph → (last : Resolved) × (history ≡ Ok (state_of text last commits graph))
history_stored (Ok after) text commits graph is = (after.schema, ap (λ (s : Replayed). Ok s) (same after.text text after.commits commits after.graph graph (cc) (cc) (cc)))
  where
    same : (t u : List ℕ) (n m : ℕ) (g h : Graph) → t ≡ u → n ≡ m → g ≡ h → state_of t after.schema n g ≡ state_of u after.schema m h
    same t u n m g h one two three = ap (λ k. state_of k after.schema n g) one ∙ ap (λ k. state_of u after.schema k g) two ∙ ap (λ k. state_of u after.schema m k) three
history_stored (Err fault) text commits graph is = absurd (at fault.1 is)
  where
    at : (why : RecordFault) → saved_fault fault.0 why ≡ store text commits graph → ⊥
    at (saving.refused answer) is = cc
    at (saving.rejected rejection) is = cc

stored_under : (limits : Limits) (payloads : List (List ℕ)) (text : List ℕ) (commits : ℕ) (graph : Graph) (answer : Answer) → schema_of (text_of payloads) ≡ answer → saved_under limits (text_of payloads) (drop 1 payloads) answer ≡ store text commits graph
    → IsStore limits text commits graph payloads
stored_under limits payloads text commits graph (schema resolved) of is =
    let found = history_stored (replay limits 2 (start (text_of payloads) resolved) (drop 1 payloads)) text commits graph is in
    record {
      first = resolved;
      of_first = of;
      last = found.0;
      of_text = replay_in_force limits 2 (start (text_of payloads) resolved) (state_of text found.0 commits graph) (drop 1 payloads) of found.1;
      replays = found.1;
    }
stored_under limits payloads text commits graph longer_than_allowed of is = absurd (cc)
stored_under limits payloads text commits graph (begins_no_item line) of is = absurd (cc)
stored_under limits payloads text commits graph (is_no_statement n) of is = absurd (cc)
stored_under limits payloads text commits graph (refused fault) of is = absurd (cc)
stored_under limits payloads text commits graph (has_wide_type name) of is = absurd (cc)

stored : (limits : Limits) (payloads : List (List ℕ)) (text : List ℕ) (commits : ℕ) (graph : Graph) → saved_of limits payloads ≡ store text commits graph → IsStore limits text commits graph payloads
unfolding saved_of
stored limits payloads text commits graph is = stored_under limits payloads text commits graph (schema_of (text_of payloads)) refl is

-- the other way round
stores : (limits : Limits) (payloads : List (List ℕ)) (first last : Resolved) (text : List ℕ) (commits : ℕ) (graph : Graph) → schema_of (text_of payloads) ≡ schema first
    → replay limits 2 (start (text_of payloads) first) (drop 1 payloads) ≡ Ok (state_of text last commits graph) → saved_of limits payloads ≡ store text commits graph
unfolding saved_of
stores limits payloads first last text commits graph of replays =
    ap (λ a. saved_under limits (text_of payloads) (drop 1 payloads) a) of ∙ ap saved_history replays

-- ---- stores of one record and of two

pub first_saves : (limits : Limits) (payload text : List ℕ) (resolved : Resolved) → decoded payload ≡ Some (Schema text) → schema_of text ≡ schema resolved → saved_of limits (payload ∷ []) ≡ store text 0 empty_graph
first_saves limits payload text resolved is of =
    stores limits (payload ∷ []) resolved resolved text 0 empty_graph (ap (λ c. schema_of (text_in c)) is ∙ of) (ap (λ c. let h : History = Ok (start (text_in c) resolved) in h) is)

pub snapshot_saves : (limits : Limits) (first second text : List ℕ) (commits : ℕ) (nodes : List (NodeId × NodeRow)) (edges : List (EdgeId × EdgeRow)) (resolved : Resolved) → decoded first ≡ Some (Schema text) → decoded second ≡ Some (Snapshot commits nodes edges) → schema_of text ≡ schema resolved
    → judged limits (verdict resolved) (snapshot_graph nodes edges) ≡ Ok (snapshot_graph nodes edges) → saved_of limits (first ∷ second ∷ []) ≡ store text commits (snapshot_graph nodes edges)
snapshot_saves limits first second text commits nodes edges resolved one two of judged_ok =
    stores limits (first ∷ second ∷ []) resolved resolved text commits (snapshot_graph nodes edges) (ap (λ c. schema_of (text_in c)) one ∙ of)
    (ap (λ c. replay limits 2 (start (text_in c) resolved) (second ∷ [])) one
    ∙ ap (λ c. and_then 2 (after_record limits (start text resolved) c) (λ after. Ok after)) two
    ∙ ap (λ r. and_then 2 (taken (record (start text resolved) { commits = commits }) r) (λ after. Ok after)) judged_ok)

-- ---- one record more

-- one record more, behind those that lead somewhere
one_more : (limits : Limits) (number : ℕ) (before middle after : Replayed) (payloads : List (List ℕ)) (payload : List ℕ) → replay limits number before payloads ≡ Ok middle → after_record limits middle (decoded payload) ≡ Ok after
    → replay limits number before (payloads ++ payload ∷ []) ≡ Ok after
one_more limits number before middle after [] payload replays next =
    ap (λ r. and_then number r (λ a. Ok a)) (ap (λ s. after_record limits s (decoded payload)) (same_ok before middle replays) ∙ next)
one_more limits number before middle after (first ∷ payloads) payload replays next =
    at (after_record limits before (decoded first)) replays (λ a rest. one_more limits (suc number) a middle after payloads payload rest next)
  where
    at : (r : Result Replayed RecordFault) → and_then number r (λ a. replay limits (suc number) a payloads) ≡ Ok middle
        → ((a : Replayed) → replay limits (suc number) a payloads ≡ Ok middle → replay limits (suc number) a (payloads ++ payload ∷ []) ≡ Ok after)
        → and_then number r (λ a. replay limits (suc number) a (payloads ++ payload ∷ [])) ≡ Ok after
    at (Ok a) is more = more a is
    at (Err fault) is more = absurd (no_error (number, fault) middle is)

-- a store with one record more that leads on from what it saves, under the schema in force there
more_saves : (limits : Limits) (payloads : List (List ℕ)) (payload before text : List ℕ) (commits more : ℕ) (graph next : Graph) → has_some payloads ≡ true → saved_of limits payloads ≡ store before commits graph
    → ((last : Resolved) → schema_of before ≡ schema last → (after : Resolved) × (after_record limits (state_of before last commits graph) (decoded payload) ≡ Ok (state_of text after more next)))
    → saved_of limits (payloads ++ payload ∷ []) ≡ store text more next
more_saves limits [] payload before text commits more graph next some saved leads = absurd (let h : false ≡ true = some in cc)
more_saves limits (first ∷ payloads) payload before text commits more graph next some saved leads =
    let known = stored limits (first ∷ payloads) before commits graph saved in
    let on = leads known.last known.of_text in
    stores limits ((first ∷ payloads) ++ payload ∷ []) known.first on.0 text more next known.of_first
    (one_more limits 2 (start (text_of (first ∷ payloads)) known.first) (state_of before known.last commits graph) (state_of text on.0 more next) payloads payload known.replays on.1)

pub one_more_saves : (limits : Limits) (payloads : List (List ℕ)) (payload text : List ℕ) (commits : ℕ) (graph next : Graph) (resolved : Resolved) (txn : Txn) → has_some payloads ≡ true → saved_of limits payloads ≡ store text commits graph → schema_of text ≡ schema resolved
    → decoded payload ≡ Some (Transaction txn) → decide limits (verdict resolved) graph txn ≡ Ok next → saved_of limits (payloads ++ payload ∷ []) ≡ store text (commits + 1) next
one_more_saves limits payloads payload text commits graph next resolved txn some saved of is accepted =
    more_saves limits payloads payload text text commits (commits + 1) graph next some saved
    (λ last same. (
      last,
      ap (after_record limits (state_of text last commits graph)) is
          ∙ ap (λ r. taken (state_of text last (commits + 1) graph) (decide limits (verdict r) graph txn)) (same_schema last resolved (sym same ∙ of))
          ∙ ap (taken (state_of text last (commits + 1) graph)) accepted,
    ))

pub one_more_schema_saves : (limits : Limits) (payloads : List (List ℕ)) (payload before text : List ℕ) (commits : ℕ) (graph : Graph) (resolved : Resolved) → has_some payloads ≡ true → saved_of limits payloads ≡ store before commits graph
    → decoded payload ≡ Some (Schema text) → schema_of text ≡ schema resolved → judged limits (verdict resolved) graph ≡ Ok graph → saved_of limits (payloads ++ payload ∷ []) ≡ store text commits graph
one_more_schema_saves limits payloads payload before text commits graph resolved some saved is of accepted =
    more_saves limits payloads payload before text commits commits graph graph some saved
    (λ last same. (
      resolved,
      ap (after_record limits (state_of before last commits graph)) is
          ∙ ap (under_schema limits (state_of before last commits graph) text) of
          ∙ ap (taken (state_of text resolved commits graph)) accepted,
    ))

-- ---- a record that is rejected

-- a record that isn't taken, behind those that lead somewhere, whatever stands behind it
one_fails : (limits : Limits) (number : ℕ) (before middle : Replayed) (payloads later : List (List ℕ)) (payload : List ℕ) (fault : RecordFault)
    → replay limits number before payloads ≡ Ok middle → after_record limits middle (decoded payload) ≡ Err fault
    → replay limits number before (payloads ++ payload ∷ later) ≡ Err (length payloads + number, fault)
one_fails limits number before middle [] later payload fault replays fails =
    ap (λ r. and_then number r (λ a. replay limits (suc number) a later)) (ap (λ s. after_record limits s (decoded payload)) (same_ok before middle replays) ∙ fails)
    ∙ ap (λ n. let h : History = Err (n, fault) in h) (omega arith)
one_fails limits number before middle (first ∷ payloads) later payload fault replays fails =
    at (after_record limits before (decoded first)) replays (λ a rest. one_fails limits (suc number) a middle payloads later payload fault rest fails)
  where
    at : (r : Result Replayed RecordFault) → and_then number r (λ a. replay limits (suc number) a payloads) ≡ Ok middle
        → ((a : Replayed) → replay limits (suc number) a payloads ≡ Ok middle → replay limits (suc number) a (payloads ++ payload ∷ later) ≡ Err (length payloads + suc number, fault))
        → and_then number r (λ a. replay limits (suc number) a (payloads ++ payload ∷ later)) ≡ Err (suc (length payloads) + number, fault)
    at (Ok a) is more = more a is ∙ ap (λ n. let h : History = Err (n, fault) in h) (omega arith)
    at (Err other) is more = absurd (no_error (number, other) middle is)

-- a store with a record that is rejected on what it saves, under the schema in force there
fails_saving : (limits : Limits) (payloads later : List (List ℕ)) (payload text : List ℕ) (commits : ℕ) (graph : Graph) (rejection : Rejection) → has_some payloads ≡ true → saved_of limits payloads ≡ store text commits graph
    → ((last : Resolved) → schema_of text ≡ schema last → after_record limits (state_of text last commits graph) (decoded payload) ≡ Err (saving.rejected rejection))
    → saved_of limits (payloads ++ payload ∷ later) ≡ bad_history (length payloads + 1) rejection
unfolding saved_of
fails_saving limits [] later payload text commits graph rejection some saved fails = absurd (let h : false ≡ true = some in cc)
fails_saving limits (first ∷ payloads) later payload text commits graph rejection some saved fails =
    let known = stored limits (first ∷ payloads) text commits graph saved in
    ap (λ a. saved_under limits (text_of (first ∷ payloads)) (payloads ++ payload ∷ later) a) known.of_first
    ∙ ap saved_history
    (one_fails limits 2 (start (text_of (first ∷ payloads)) known.first) (state_of text known.last commits graph) payloads later payload (saving.rejected rejection) known.replays (fails known.last known.of_text))
    ∙ ap (λ n. bad_history n rejection) (omega arith)

pub rejected_txn_is_told : (limits : Limits) (payloads later : List (List ℕ)) (payload text : List ℕ) (commits : ℕ) (graph : Graph) (resolved : Resolved) (txn : Txn) (rejection : Rejection) → has_some payloads ≡ true → saved_of limits payloads ≡ store text commits graph → schema_of text ≡ schema resolved
    → decoded payload ≡ Some (Transaction txn) → decide limits (verdict resolved) graph txn ≡ Err rejection → saved_of limits (payloads ++ payload ∷ later) ≡ bad_history (length payloads + 1) rejection
rejected_txn_is_told limits payloads later payload text commits graph resolved txn rejection some saved of is refuses =
    fails_saving limits payloads later payload text commits graph rejection some saved
    (λ last same. ap (after_record limits (state_of text last commits graph)) is
    ∙ ap (λ r. taken (state_of text last (commits + 1) graph) (decide limits (verdict r) graph txn)) (same_schema last resolved (sym same ∙ of))
    ∙ ap (taken (state_of text last (commits + 1) graph)) refuses)

pub rejected_schema_is_told : (limits : Limits) (payloads later : List (List ℕ)) (payload before text : List ℕ) (commits : ℕ) (graph : Graph) (resolved : Resolved) (rejection : Rejection) → has_some payloads ≡ true → saved_of limits payloads ≡ store before commits graph
    → decoded payload ≡ Some (Schema text) → schema_of text ≡ schema resolved → judged limits (verdict resolved) graph ≡ Err rejection → saved_of limits (payloads ++ payload ∷ later) ≡ bad_history (length payloads + 1) rejection
rejected_schema_is_told limits payloads later payload before text commits graph resolved rejection some saved is of refuses =
    fails_saving limits payloads later payload before commits graph rejection some saved
    (λ last same. ap (after_record limits (state_of before last commits graph)) is
    ∙ ap (under_schema limits (state_of before last commits graph) text) of
    ∙ ap (taken (state_of text resolved commits graph)) refuses)

-- ---- how many commits

taken_commits : (before after : Replayed) (answer : Result Graph Rejection) → taken before answer ≡ Ok after → after.commits ≡ before.commits
taken_commits before after answer is = ap (λ (s : Replayed). s.commits) (sym (taken_is before after answer is).1)

schema_commits : (limits : Limits) (before after : Replayed) (text : List ℕ) (answer : Answer) → under_schema limits before text answer ≡ Ok after → after.commits ≡ before.commits
schema_commits limits before after text (schema resolved) is = taken_commits (record before { text = text; schema = resolved }) after (judged limits (verdict resolved) before.graph) is
schema_commits limits before after text longer_than_allowed is = absurd (no_error (saving.refused longer_than_allowed) after is)
schema_commits limits before after text (begins_no_item line) is = absurd (no_error (saving.refused (begins_no_item line)) after is)
schema_commits limits before after text (is_no_statement n) is = absurd (no_error (saving.refused (is_no_statement n)) after is)
schema_commits limits before after text (refused fault) is = absurd (no_error (saving.refused (refused fault)) after is)
schema_commits limits before after text (has_wide_type name) is = absurd (no_error (saving.refused (has_wide_type name)) after is)

-- a record behind the first makes one commit or none, or goes on from a snapshot
one_record : (limits : Limits) (format : Format) (epoch number : ℕ) (before after : Replayed) (payload : List ℕ) (command : Option Command) → decoded payload ≡ command → 2 ≤ number → is_fit format epoch number payload ≡ true
    → after_record limits before command ≡ Ok after → (k : ℕ) → before.commits ≤ (epoch - 1) * 2 ^ 40 + k → after.commits ≤ (epoch - 1) * 2 ^ 40 + (k + 1)
one_record limits format epoch number before after payload None is later fit goes k most = omega (arith, ap (λ (s : Replayed). s.commits) (same_ok before after goes), most)
one_record limits format epoch number before after payload (Some (Schema text)) is later fit goes k most = omega (arith, schema_commits limits before after text (schema_of text) goes, most)
one_record limits format epoch number before after payload (Some (Transaction txn)) is later fit goes k most =
    omega (arith, taken_commits (record before { commits = before.commits + 1 }) after (decide limits (verdict before.schema) before.graph txn) goes, most)
one_record limits format epoch number before after payload (Some (Snapshot commits nodes edges)) is later fit goes k most =
    omega (arith, taken_commits (record before { commits = commits }) after (judged limits (verdict before.schema) (snapshot_graph nodes edges)) goes, snapshot_within format epoch number payload commits nodes edges later is fit)

few_commits : (limits : Limits) (format : Format) (epoch number : ℕ) (before after : Replayed) (payloads : List (List ℕ)) → 2 ≤ number → first_unfit format epoch number payloads ≡ None → replay limits number before payloads ≡ Ok after
    → (k : ℕ) → before.commits ≤ (epoch - 1) * 2 ^ 40 + k → after.commits ≤ (epoch - 1) * 2 ^ 40 + (k + length payloads)
few_commits limits format epoch number before after [] later fit goes k most = omega (arith, ap (λ (s : Replayed). s.commits) (same_ok before after goes), most)
few_commits limits format epoch number before after (payload ∷ payloads) later fit goes k most =
    at (is_fit format epoch number payload) refl fit (after_record limits before (decoded payload)) refl goes
    (λ middle rest_fit rest less. few_commits limits format epoch (suc number) middle after payloads (omega (arith, later)) rest_fit rest (k + 1) less)
  where
    at : (b : Bool) → is_fit format epoch number payload ≡ b → (if b then first_unfit format epoch (suc number) payloads else Some number) ≡ None
        → (r : Result Replayed RecordFault) → after_record limits before (decoded payload) ≡ r → and_then number r (λ a. replay limits (suc number) a payloads) ≡ Ok after
        → ((middle : Replayed) → first_unfit format epoch (suc number) payloads ≡ None → replay limits (suc number) middle payloads ≡ Ok after → middle.commits ≤ (epoch - 1) * 2 ^ 40 + (k + 1)
        → after.commits ≤ (epoch - 1) * 2 ^ 40 + (k + 1 + length payloads))
        → after.commits ≤ (epoch - 1) * 2 ^ 40 + (k + suc (length payloads))
    at true is_b rest_fit (Ok middle) is_r rest more =
        omega (arith, more middle rest_fit rest (one_record limits format epoch number before middle payload (decoded payload) refl later is_b is_r k most))
    at true is_b rest_fit (Err fault) is_r rest more = absurd (no_error (number, fault) after rest)
    at false is_b rest_fit r is_r rest more = absurd (let o : Option ℕ = None in let h : Some number ≡ o = rest_fit in cc)

rest_fit_of : (format : Format) (epoch : ℕ) (payload : List ℕ) (payloads : List (List ℕ)) → first_unfit format epoch 1 (payload ∷ payloads) ≡ None → first_unfit format epoch 2 payloads ≡ None
rest_fit_of format epoch payload payloads is = at (is_fit format epoch 1 payload) is
  where
    at : (b : Bool) → (if b then first_unfit format epoch 2 payloads else Some 1) ≡ None → first_unfit format epoch 2 payloads ≡ None
    at true rest = rest
    at false rest = absurd (let o : Option ℕ = None in let h : Some 1 ≡ o = rest in cc)

pub commits_within : (limits : Limits) (epoch end : ℕ) (next : Option ℕ) (payloads : List (List ℕ)) (text : List ℕ) (commits : ℕ) (graph : Graph) → IsBoundedStore epoch end next payloads → saved_of limits payloads ≡ store text commits graph → commits ≤ (epoch - 1) * 2 ^ 40 + end
commits_within limits epoch end next [] text commits graph bounds saved = absurd (omega (arith, bounds.some))
commits_within limits epoch end next (payload ∷ payloads) text commits graph bounds saved =
    let known = stored limits (payload ∷ payloads) text commits graph saved in
    omega (arith, few_commits limits (format_of next) epoch 2 (start (text_of (payload ∷ payloads)) known.first) (state_of text known.last commits graph) payloads (omega arith) (rest_fit_of (format_of next) epoch payload payloads bounds.fit) known.replays 0 (omega arith), bounds.most)
