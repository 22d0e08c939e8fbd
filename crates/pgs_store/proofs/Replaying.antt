-- How the replay of records goes on record by record, and what it comes to.
use Rattle.std.proofs.Common.{◌≡◌, ℕ, zero, suc, ◌+◌, ◌-◌, ◌*◌, ◌^◌, ◌<◌, ◌≤◌, Bool, true, false, List, [], ◌∷◌, length, drop, get_or, Option, Some, None, Result, Ok, Err, refl, sym, ◌∙◌, ap, arith, add-one, drop-cons, length-drop}
use Rattle.std.specs.Prelude.{if◌then◌else◌}
use Rattle.pgs_base.specs.declared.limits.Limits.{Limits}
use Rattle.pgs_base.specs.Graph.{Graph, element_count, empty_graph}
use Rattle.pgs_codec.specs.declared.command.Command.{Command}
use Rattle.pgs_codec.specs.declared.command.Command.TheVariants.{Schema, Txn as Transaction, Snapshot}
use Rattle.pgs_codec.specs.Encodable.{snapshot_graph}
use Rattle.pgs_codec.specs.Reading.{decoded}
use Rattle.pgs_journal.specs.declared.format.Format.{Format}
use Rattle.pgs_journal.specs.Area.{is_fit, first_unfit}
use Rattle.pgs_resolve.specs.SchemaOf.{Answer, longer_than_allowed, begins_no_item, is_no_statement, has_wide_type, schema, schema_of}
use Rattle.pgs_resolve.specs.SchemaOf.{refused as no_schema}
use Rattle.pgs_schema.specs.declared.fault.SchemaFault.{SchemaFault}
use Rattle.pgs_schema.specs.declared.fault.SchemaFault.TheVariants as schema_faults
use Rattle.pgs_schema.specs.declared.fault.SchemaUnread.{SchemaUnread}
use Rattle.pgs_schema.specs.declared.fault.SchemaUnread.TheVariants as unreads
use Rattle.pgs_schema.specs.State.{SchemaState}
use Rattle.pgs_schema.specs.Told.{IsRefused, answer_of}
use Rattle.pgs_snapshot.specs.Choice.{Choice, choice_of}
use Rattle.pgs_snapshot.specs.Choice as choices
use Rattle.pgs_snapshot.specs.Saved.{Replayed, RecordFault, History, after_record, and_then, refused, rejected, replay, saved_by, saved_history, saved_of, saved_under, saved, start, store, taken, text_of, under_schema, bad_schema}
use Rattle.pgs_snapshot.specs.Standing.{Refuses}
use Rattle.pgs_snapshot.specs.declared.choose_fault.ChooseFault.{ChooseFault}
use Rattle.pgs_snapshot.specs.declared.choose_fault.ChooseFault.TheVariants as choosing
use Rattle.pgs_snapshot.proofs.Fitness.{snapshot_within}
use Rattle.pgs_store.specs.declared.fault.RecoverFault.{RecoverFault}
use Rattle.pgs_store.specs.declared.fault.RecoverFault.TheVariants as recovers
use Rattle.pgs_store.specs.declared.fault.SchemaRefusal.{SchemaRefusal}
use Rattle.pgs_store.specs.declared.fault.SchemaRefusal.TheVariants as refusals
use Rattle.pgs_store.specs.Evolves.{IsUnfit}
use Rattle.pgs_store.specs.Recovers.{IsUnreplayed, IsUnrecovered, IsUntaken, is_of_area, of_schema_refusal, replayed_in}
use Rattle.pgs_store.specs.State.{GuardState, IsGuarded}
use Rattle.pgs_store.specs.Stored.{evolved}
use Rattle.pgs_store.specs.Unread.{of_choice, of_recover, of_schema}
use Rattle.pgs_syntax.specs.declared.resolved.Resolved.{Resolved}
use Rattle.pgs_violation.specs.declared.rejection.Rejection.{Rejection}
use Rattle.pgs_violation.specs.Decision.{decide, judged}
use Rattle.pgs_violation.specs.Violations.{verdict}
use Rattle.pgs_store.proofs.Decided.{judged_violated, judged_within}

-- ---- one record

first_dropped : (payloads : List (List ℕ)) (place : ℕ) (payload : List ℕ) → place < length payloads → get_or payloads place payload ≡ payload
    → drop place payloads ≡ payload ∷ drop (place + 1) payloads
first_dropped payloads place payload within here =
    rw (add-one, drop-cons payloads place payload) (ap (λ (p : List ℕ). p ∷ drop (suc place) payloads) here)

-- of records that are left at a place, one is taken: the place is inside, the record stands there, and the rest is left at the next place
pub taken_within : (payloads : List (List ℕ)) (place : ℕ) (payload : List ℕ) (rest : List (List ℕ)) → payload ∷ rest ≡ drop place payloads → place < length payloads
taken_within payloads place payload rest left =
    let count : suc (length rest) ≡ length payloads - place = ap length left ∙ length-drop place payloads in omega (arith, count)

pub taken_here : (payloads : List (List ℕ)) (place : ℕ) (payload : List ℕ) (rest : List (List ℕ)) → payload ∷ rest ≡ drop place payloads → get_or payloads place payload ≡ payload
taken_here [] zero payload rest left = cc
taken_here [] (suc place) payload rest left = cc
taken_here (first ∷ payloads) zero payload rest left = cc
taken_here (first ∷ payloads) (suc place) payload rest left = taken_here payloads place payload rest left

pub taken_rest : (payloads : List (List ℕ)) (place : ℕ) (payload : List ℕ) (rest : List (List ℕ)) → payload ∷ rest ≡ drop place payloads → rest ≡ drop (place + 1) payloads
taken_rest payloads place payload rest left =
    let split : payload ∷ rest ≡ payload ∷ drop (place + 1) payloads =
    left ∙ first_dropped payloads place payload (taken_within payloads place payload rest left) (taken_here payloads place payload rest left) in
    cc

module _ (limits : Limits) where
  number_on : (number : ℕ) (before : Replayed) (payloads : List (List ℕ)) → replay limits (suc number) before payloads ≡ replay limits (number + 1) before payloads
  number_on number before payloads = ap (λ n. replay limits n before payloads) (sym (add-one number))

  -- a record that is taken
  pub goes_on : (payloads : List (List ℕ)) (place : ℕ) (payload : List ℕ) (before after : Replayed) → place < length payloads → get_or payloads place payload ≡ payload
      → after_record limits before (decoded payload) ≡ Ok after
      → replay limits (place + 1 + 1) after (drop (place + 1) payloads) ≡ replay limits (place + 1) before (drop place payloads)
  goes_on payloads place payload before after within here taken =
      sym (number_on (place + 1) after (drop (place + 1) payloads))
      ∙ sym (ap (λ (r : Result Replayed RecordFault). and_then (place + 1) r (λ a. replay limits (suc (place + 1)) a (drop (place + 1) payloads))) taken)
      ∙ ap (λ (ps : List (List ℕ)). replay limits (place + 1) before ps) (sym (first_dropped payloads place payload within here))

  module _ (payloads : List (List ℕ)) (place : ℕ) (payload : List ℕ) (before : Replayed) (within : place < length payloads) (here : get_or payloads place payload ≡ payload) where
    ends : (fault : RecordFault) → after_record limits before (decoded payload) ≡ Err fault → replay limits (place + 1) before (drop place payloads) ≡ Err (place + 1, fault)
    ends fault untaken =
        ap (λ (ps : List (List ℕ)). replay limits (place + 1) before ps) (first_dropped payloads place payload within here)
        ∙ ap (λ (r : Result Replayed RecordFault). and_then (place + 1) r (λ a. replay limits (suc (place + 1)) a (drop (place + 1) payloads))) untaken

    -- one that isn't
    pub ends_at : (fault : RecoverFault) → IsUntaken (place + 1) (after_record limits before (decoded payload)) fault
        → IsUnreplayed (replay limits (place + 1) before (drop place payloads)) fault
    ends_at recovers.Memory untaken = tt
    ends_at (recovers.BadHistory number rejection) untaken =
        ends (rejected rejection) untaken.1 ∙ ap (λ (n : ℕ). let r : History = Err (n, rejected rejection) in r) (sym untaken.0)
    ends_at (recovers.Schema fault) untaken = (place + 1, ends (refused (answer_of fault)) untaken)
    ends_at recovers.DiskFault untaken = absurd untaken
    ends_at recovers.NoStore untaken = absurd untaken
    ends_at recovers.Foreign untaken = absurd untaken
    ends_at (recovers.BadRecord number) untaken = absurd untaken

-- ---- commits

same_ok : (a b : Replayed) (r : Result Replayed RecordFault) → r ≡ Ok a → r ≡ Ok b → a.commits ≡ b.commits
same_ok a b r e f = let same : a ≡ b = cc in ap (λ (s : Replayed). s.commits) same

counted : (next : Replayed) (decision : Result Graph Rejection) (after : Replayed) → taken next decision ≡ Ok after → after.commits ≡ next.commits
counted next (Ok graph) after e = let same : record next { graph = graph } ≡ after = cc in sym (ap (λ (s : Replayed). s.commits) same)
counted next (Err rejection) after e = cc

counted_under : (limits : Limits) (before : Replayed) (text : List ℕ) (answer : Answer) (after : Replayed) → under_schema limits before text answer ≡ Ok after
    → after.commits ≡ before.commits
counted_under limits before text (schema resolved) after e =
    counted (record before { text = text; schema = resolved }) (judged limits (verdict resolved) before.graph) after e
counted_under limits before text longer_than_allowed after e = cc
counted_under limits before text (begins_no_item line) after e = cc
counted_under limits before text (is_no_statement n) after e = cc
counted_under limits before text (no_schema fault) after e = cc
counted_under limits before text (has_wide_type name) after e = cc

-- a record that is taken makes at most one commit, or goes on from a snapshot
pub few_on : (limits : Limits) (format : Format) (epoch number : ℕ) (before after : Replayed) (payload : List ℕ) (command : Option Command)
    → decoded payload ≡ command → 2 ≤ number → is_fit format epoch number payload ≡ true → after_record limits before command ≡ Ok after
    → (k : ℕ) → before.commits + 1 ≤ (epoch - 1) * 2 ^ 40 + k → after.commits + 1 ≤ (epoch - 1) * 2 ^ 40 + (k + 1)
few_on limits format epoch number before after payload None is later fit goes k few =
    omega (arith, same_ok before after (after_record limits before None) refl goes, few)
few_on limits format epoch number before after payload (Some (Schema text)) is later fit goes k few =
    omega (arith, counted_under limits before text (schema_of text) after goes, few)
few_on limits format epoch number before after payload (Some (Transaction txn)) is later fit goes k few =
    omega (arith, counted (record before { commits = before.commits + 1 }) (decide limits (verdict before.schema) before.graph txn) after goes, few)
few_on limits format epoch number before after payload (Some (Snapshot commits nodes edges)) is later fit goes k few =
    omega (
      arith,
      counted (record before { commits = commits }) (judged limits (verdict before.schema) (snapshot_graph nodes edges)) after goes,
      snapshot_within format epoch number payload commits nodes edges later is fit,
    )

-- each record of a store is fit for its place
pub fit_at : (format : Format) (epoch number : ℕ) (payloads : List (List ℕ)) (place : ℕ) (payload : List ℕ) → first_unfit format epoch number payloads ≡ None
    → place < length payloads → get_or payloads place payload ≡ payload → is_fit format epoch (number + place) payload ≡ true
fit_at format epoch number [] place payload fit within here = absurd (omega (arith, within))
fit_at format epoch number (first ∷ payloads) zero payload fit within here = at (is_fit format epoch number first) refl fit
  where
    at : (b : Bool) → is_fit format epoch number first ≡ b → (if b then first_unfit format epoch (suc number) payloads else Some number) ≡ None
        → is_fit format epoch (number + 0) payload ≡ true
    at true is rest = let same : number + 0 ≡ number = omega arith in ap (λ n. is_fit format epoch n payload) same ∙ (ap (is_fit format epoch number) (sym here) ∙ is)
    at false is rest = absurd (let o : Option ℕ = None in let h : Some number ≡ o = rest in cc)
fit_at format epoch number (first ∷ payloads) (suc place) payload fit within here =
    at (is_fit format epoch number first) fit (λ rest. fit_at format epoch (suc number) payloads place payload rest (omega (arith, within)) here)
  where
    at : (b : Bool) → (if b then first_unfit format epoch (suc number) payloads else Some number) ≡ None
        → (first_unfit format epoch (suc number) payloads ≡ None → is_fit format epoch (suc number + place) payload ≡ true)
        → is_fit format epoch (number + suc place) payload ≡ true
    at true rest go = let same : number + suc place ≡ suc number + place = omega arith in ap (λ (n : ℕ). is_fit format epoch n payload) same ∙ go rest
    at false rest go = absurd (let o : Option ℕ = None in let h : Some number ≡ o = rest in cc)

-- ---- a later schema

module _ (guard : GuardState) (text : List ℕ) where
  abbrev judged_as : Answer → Result Replayed RecordFault
  judged_as answer = under_schema guard.limits (replayed_in guard) text answer

  unread_text : (fault : SchemaFault) → judged_as (answer_of fault) ≡ Err (refused (answer_of fault))
  unread_text (schema_faults.Lex line) = refl
  unread_text (schema_faults.Syntax statement) = refl
  unread_text schema_faults.NoGraphType = refl
  unread_text (schema_faults.Duplicate name) = refl
  unread_text (schema_faults.Unknown name) = refl
  unread_text (schema_faults.Kind name) = refl
  unread_text (schema_faults.Cycle name) = refl
  unread_text (schema_faults.TooWide name) = refl
  unread_text (schema_faults.BadKey key cause) = refl
  unread_text schema_faults.TooLong = refl

  -- it isn't in force, since its text wasn't read, or since the graph so far doesn't conform
  pub unfit_untaken : (refusal : SchemaRefusal) (number : ℕ) → element_count guard.graph ≤ guard.limits.elements → IsUnfit guard text refusal
      → IsUntaken number (judged_as (schema_of text)) (of_schema_refusal number refusal)
  unfit_untaken refusals.Memory number within unfit = tt
  unfit_untaken (refusals.Schema fault) number within unfit = ap judged_as unfit ∙ unread_text fault
  unfit_untaken (refusals.Violated violation) number within unfit = (
    refl,
    ap judged_as unfit.1.0
        ∙ ap (taken (record (replayed_in guard) { text = text; schema = unfit.0 })) (judged_violated unfit.0 guard.limits guard.graph violation within unfit.1.1),
  )

  -- a text that wasn't read
  pub unread_untaken : (why : SchemaUnread) (number : ℕ) → IsRefused (schema_of text) why
      → IsUntaken number (judged_as (schema_of text)) (of_schema_refusal number (of_schema why))
  unread_untaken unreads.Memory number is = tt
  unread_untaken (unreads.Schema fault) number is = ap judged_as is ∙ unread_text fault

  -- it is in force
  pub schema_taken : (next : GuardState) (given read : SchemaState) → read.text ≡ text → given ≡ read → next ≡ evolved guard given.text given.resolved
      → schema_of read.text ≡ schema read.resolved → IsGuarded read.resolved guard.limits guard.graph → judged_as (schema_of text) ≡ Ok (replayed_in next)
  schema_taken next given read same_text same done of_text guarded =
      let after : next ≡ evolved guard text read.resolved =
      done ∙ ap (λ (s : SchemaState). evolved guard s.text s.resolved) same ∙ ap (λ (t : List ℕ). evolved guard t read.resolved) same_text in
      ap judged_as (ap schema_of (sym same_text) ∙ of_text)
      ∙ ap (taken (record (replayed_in guard) { text = text; schema = read.resolved })) (judged_within read.resolved guard.limits guard.graph guarded)
      ∙ ap (λ (s : GuardState). let r : Result Replayed RecordFault = Ok (replayed_in s) in r) (sym after)

-- ---- what is saved

module _ (limits : Limits) (payloads : List (List ℕ)) (text : List ℕ) (same : text ≡ text_of payloads) where
  under : (answer : Answer) → schema_of text ≡ answer → saved_of limits payloads ≡ saved_under limits text (drop 1 payloads) answer
  unfolding saved_of
  under answer is =
      ap (λ (t : List ℕ). saved_under limits t (drop 1 payloads) (schema_of t)) (sym same) ∙ ap (saved_under limits text (drop 1 payloads)) is

  pub replayed_saves : (resolved : Resolved) (after : Replayed) → schema_of text ≡ schema resolved
      → replay limits 2 (start text resolved) (drop 1 payloads) ≡ Ok after → saved_of limits payloads ≡ store after.text after.commits after.graph
  replayed_saves resolved after of_text replays = under (schema resolved) of_text ∙ ap saved_history replays

  pub unreplayed_saves : (resolved : Resolved) (fault : RecoverFault) → schema_of text ≡ schema resolved
      → IsUnreplayed (replay limits 2 (start text resolved) (drop 1 payloads)) fault → IsUnrecovered (saved_of limits payloads) fault
  unreplayed_saves resolved (recovers.BadHistory number rejection) of_text is = under (schema resolved) of_text ∙ ap saved_history is
  unreplayed_saves resolved (recovers.Schema fault) of_text is = under (schema resolved) of_text ∙ ap saved_history is.1
  unreplayed_saves resolved recovers.Memory of_text is = tt
  unreplayed_saves resolved recovers.DiskFault of_text is = absurd is
  unreplayed_saves resolved recovers.NoStore of_text is = absurd is
  unreplayed_saves resolved recovers.Foreign of_text is = absurd is
  unreplayed_saves resolved (recovers.BadRecord number) of_text is = absurd is

  bad_text : (fault : SchemaFault) → saved_under limits text (drop 1 payloads) (answer_of fault) ≡ bad_schema (answer_of fault)
  bad_text (schema_faults.Lex line) = refl
  bad_text (schema_faults.Syntax statement) = refl
  bad_text schema_faults.NoGraphType = refl
  bad_text (schema_faults.Duplicate name) = refl
  bad_text (schema_faults.Unknown name) = refl
  bad_text (schema_faults.Kind name) = refl
  bad_text (schema_faults.Cycle name) = refl
  bad_text (schema_faults.TooWide name) = refl
  bad_text (schema_faults.BadKey key cause) = refl
  bad_text schema_faults.TooLong = refl

  pub refused_saves : (fault : SchemaFault) → schema_of text ≡ answer_of fault → saved_of limits payloads ≡ bad_schema (answer_of fault)
  refused_saves fault is = under (answer_of fault) is ∙ bad_text fault

-- of two images by their choice
pub chosen_saves : (limits : Limits) (a b : List ℕ) (choice : Choice) → choice_of a b ≡ choice → saved limits a b ≡ saved_by limits choice
unfolding saved
chosen_saves limits a b choice is = ap (saved_by limits) is

damaged_saves : (limits : Limits) (number : ℕ) (choice : Choice) → Refuses (choosing.BadRecord number) choice → IsUnrecovered (saved_by limits choice) (recovers.BadRecord number)
damaged_saves limits number (choices.damaged area epoch at) is = ap (λ n. saved_by limits (choices.damaged area epoch n)) is
damaged_saves limits number (choices.chosen area epoch end next payloads) is = absurd is
damaged_saves limits number choices.no_store is = absurd is
damaged_saves limits number choices.foreign is = absurd is

pub unchosen_saves : (limits : Limits) (a b : List ℕ) (fault : ChooseFault) → Refuses fault (choice_of a b) → IsUnrecovered (saved limits a b) (of_choice fault)
unchosen_saves limits a b choosing.Memory refuses = tt
unchosen_saves limits a b choosing.DiskFault refuses = tt
unchosen_saves limits a b choosing.NoStore refuses = chosen_saves limits a b choices.no_store refuses
unchosen_saves limits a b choosing.Foreign refuses = chosen_saves limits a b choices.foreign refuses
unchosen_saves limits a b (choosing.BadRecord number) refuses = chosen_saves limits a b (choice_of a b) refl ∙ damaged_saves limits number (choice_of a b) refuses

pub unread_saves : (limits : Limits) (payloads : List (List ℕ)) (text : List ℕ) → text ≡ text_of payloads → (unread : SchemaUnread) → IsRefused (schema_of text) unread
    → IsUnrecovered (saved_of limits payloads) (of_recover unread)
unread_saves limits payloads text same unreads.Memory is = tt
unread_saves limits payloads text same (unreads.Schema fault) is = refused_saves limits payloads text same fault is

-- a replay ends for no area
pub not_of_area : (history : History) (fault : RecoverFault) → IsUnreplayed history fault → is_of_area fault ≡ false
not_of_area history (recovers.BadHistory number rejection) is = refl
not_of_area history recovers.Memory is = refl
not_of_area history recovers.DiskFault is = absurd is
not_of_area history recovers.NoStore is = refl
not_of_area history recovers.Foreign is = refl
not_of_area history (recovers.BadRecord number) is = refl
not_of_area history (recovers.Schema fault) is = refl

-- a guard that was just made stands at the start
pub at_start : (guard : GuardState) → guard.graph ≡ empty_graph → guard.commits ≡ 0 → replayed_in guard ≡ start guard.text guard.schema
at_start guard empty none =
    ap (λ (g : Graph). let r : Replayed = record { text = guard.text; schema = guard.schema; commits = guard.commits; graph = g } in r) empty
    ∙ ap (λ (n : ℕ). let r : Replayed = record { text = guard.text; schema = guard.schema; commits = n; graph = empty_graph } in r) none
