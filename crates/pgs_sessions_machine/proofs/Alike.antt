-- A session whose commit is decided has the replies of running alone at its commit.
use Rattle.std.specs.List.Sorted.{IsStrictlySortedBy}
use Rattle.std.proofs.Common.{◌≡◌, ℕ, ◌+◌, ◌<◌, ◌≤◌, inl, inr, Bool, ◌&&◌, ◌||◌, true, false, true≢false, cond, List, [], ◌∷◌, ◌++◌, length, Option, Some, None, is_some, Result, Ok, Err, refl, sym, ap, subst, ◌∙◌, arith}
use Rattle.std.specs.Prelude.{if◌then◌else◌, nat_le, filter, flat_map}
use Rattle.std.specs.Cmp.{nat_cmp_total, Equal-is}
use Rattle.std.specs.List.{list_all, list_any}
use Rattle.std.specs.Map.{lookup}
use Rattle.std.specs.Ordering.{nat_cmp}
use Rattle.std.specs.BTreeMap.{is_at, insert_entry}
use Rattle.std.proofs.lemmas.Bool.{and_parts, eqb-true, leb-false, lt-leb}
use Rattle.pgs_base.specs.declared.element.Elem.{Elem}
use Rattle.pgs_base.specs.Graph.{Graph}
use Rattle.pgs_base.specs.Order.{elem_cmp}
use Rattle.pgs_base.specs.OrderLaws.{exact_elem}
use Rattle.pgs_base.proofs.Lookups.{lookup-insert_entry_same, lookup-remove_key_same, length-remove_entry}
use Rattle.pgs_graph.specs.declared.operation.Txn.{Txn}
use Rattle.pgs_violation.specs.declared.rejection.Rejection.{Rejection}
use Rattle.pgs_sessions_machine.specs.declared.event.Event.{Event}
use Rattle.pgs_sessions_machine.specs.declared.event.Event.TheVariants.{Begin, Read, Stage, Commit, Abort}
use Rattle.pgs_sessions_machine.specs.declared.event.Reply.{Reply}
use Rattle.pgs_sessions_machine.specs.declared.event.Reply.TheVariants.{Began, Content, Staged, Committed, AlreadyOpen, TooManySessions}
use Rattle.pgs_sessions_machine.specs.Alone.{is_own, leaves_open, is_decision, own_replies, alone, RunsAsAlone}
use Rattle.pgs_sessions_machine.specs.Content.{content_of}
use Rattle.pgs_sessions_machine.specs.Machine.{Session, State, Outcome, start, session_at, with_session, without_session, last_of, least_of, least_after, named, watched, decided, committed, open_step, begun, step_at, step, replies, state_after}
use Rattle.pgs_sessions_machine.proofs.Contents.{none_after}
use Rattle.pgs_sessions_machine.proofs.Histories.{IsSound, later_change, with_sound, step_sound, run_sound, along, commits_grow}
use Rattle.pgs_sessions_machine.proofs.Tracked.{advanced, after, began_stays, has_read, reads_stay, reads_it, with_it, others, tracked}

-- ---- what a commit that is decided says of the elements read

first_none : (elem : Elem) (change : Option ℕ) (rest : Option (Elem × ℕ)) → least_of elem change rest ≡ None → (change ≡ None) × (rest ≡ None)
first_none elem None rest h = (refl, h)
first_none elem (Some commit) rest h = cc

still_each : (state : State) (n : ℕ) (elem : Elem) (xs ys : List Elem) → least_after (last_of state) n (xs ++ ys) ≡ None → list_any (is_at (elem_cmp elem)) xs ≡ true → later_change state n elem ≡ None
still_each state n elem [] ys none there = absurd (true≢false (sym there))
still_each state n elem (x ∷ xs) ys none there = by (still_each state n elem xs ys parts.1) (is_at (elem_cmp elem) x) refl there
  where
    parts : (later_change state n x ≡ None) × (least_after (last_of state) n (xs ++ ys) ≡ None)
    parts = first_none x (later_change state n x) (least_after (last_of state) n (xs ++ ys)) none

    by : (list_any (is_at (elem_cmp elem)) xs ≡ true → later_change state n elem ≡ None) →
        (b : Bool) → is_at (elem_cmp elem) x ≡ b → (b || list_any (is_at (elem_cmp elem)) xs) ≡ true → later_change state n elem ≡ None
    by rest true at here = ap (later_change state n) (exact_elem elem x ((Equal-is (elem_cmp elem x)).0 at)) ∙ parts.0
    by rest false at later = rest later

no_change : (state : State) (xs : List Elem) → least_after (last_of state) (length state.earlier) xs ≡ None
no_change state [] = refl
no_change state (x ∷ xs) = rw (none_after x state.latest state.earlier (length state.earlier) (omega arith)) (no_change state xs)

module _ (decision : Graph → Txn → Result Graph Rejection) (number : ℕ) where
  abbrev commit_reply : State → Reply
  commit_reply state = (step decision state (Commit number)).reply

  -- a session as it is in a run alone
  abbrev moved : State → Session → Session
  moved final session = record session { began = length final.earlier }

  abbrev mirror : State → List (ℕ × Session) → State
  mirror final sessions = record final { sessions = sessions }

  abbrev IsStill : State → ℕ → Session → Type 0
  IsStill final n session = (elem : Elem) → has_read elem session ≡ true → later_change final n elem ≡ None

  not_stale : (state : State) (session : Session) (change : Option (Elem × ℕ)) → is_decision (committed decision state session change).reply ≡ true → change ≡ None
  not_stale state session None h = refl
  not_stale state session (Some change) h = absurd (true≢false (sym h))

  commit_is : (state : State) (session : Session) → session_at state number ≡ Some session →
      step decision state (Commit number) ≡ committed decision (without_session state number) session (least_after (last_of state) session.began (watched session))
  commit_is state session is_open = ap (step_at decision state (Commit number)) is_open

  unchanged : (state : State) (session : Session) → session_at state number ≡ Some session → is_decision (commit_reply state) ≡ true →
      least_after (last_of state) session.began (watched session) ≡ None
  unchanged state session is_open decided =
      not_stale (without_session state number) session _ (ap (λ (o : Outcome). is_decision o.reply) (sym (commit_is state session is_open)) ∙ decided)

  -- ---- the commit

  same_reply : (a b : State) → a.earlier ≡ b.earlier → (d : Result Graph Rejection) → (decided a d).reply ≡ (decided b d).reply
  same_reply a b e (Ok graph) = ap (λ (earlier : List Graph). Committed (length earlier + 1)) e
  same_reply a b e (Err rejection) = refl

  plain_reply : (state : State) (session : Session) → session_at state number ≡ Some session → least_after (last_of state) session.began (watched session) ≡ None →
      commit_reply state ≡ (decided (without_session state number) (decision state.latest (record { ops = session.staged }))).reply
  plain_reply state session is_open none =
      ap (λ (o : Outcome). o.reply) (commit_is state session is_open)
      ∙ ap (λ (change : Option (Elem × ℕ)). (committed decision (without_session state number) session change).reply) none

  same_commit : (state : State) (session : Session) (os : List (ℕ × Session)) → session_at state number ≡ Some session → is_decision (commit_reply state) ≡ true →
      lookup (is_at (nat_cmp number)) os ≡ Some (moved state session) → commit_reply state ≡ commit_reply (mirror state os)
  same_commit state session os is_open decided found =
      plain_reply state session is_open (unchanged state session is_open decided)
      ∙ same_reply (without_session state number) (without_session (mirror state os) number) refl (decision state.latest (record { ops = session.staged }))
      ∙ sym (plain_reply (mirror state os) (moved state session) found (no_change (mirror state os) (watched session)))

  -- ---- one event after another

  abbrev Mirrors : State → List Event → Session → Type 0
  Mirrors state events session = (os : List (ℕ × Session)) → IsSound state → session_at state number ≡ Some session → session.began ≤ length state.earlier →
      list_all (leaves_open number) events ≡ true → IsStill (state_after decision state events) session.began (after number session events) →
      is_decision (commit_reply (state_after decision state events)) ≡ true →
      lookup (is_at (nat_cmp number)) os ≡ Some (moved (state_after decision state events) session) →
      own_replies decision number state events ++ commit_reply (state_after decision state events) ∷ []
      ≡ replies decision (mirror (state_after decision state events) os) (filter (is_own number) events ++ Commit number ∷ [])

  -- the same where the first event is the session's own, and this is what it brings
  abbrev Own : Outcome → Event → List Event → Session → Type 0
  Own outcome event events session = (os : List (ℕ × Session)) →
      list_all (leaves_open number) events ≡ true → IsStill (state_after decision outcome.state events) session.began (after number (advanced session event) events) →
      is_decision (commit_reply (state_after decision outcome.state events)) ≡ true →
      lookup (is_at (nat_cmp number)) os ≡ Some (moved (state_after decision outcome.state events) session) →
      outcome.reply ∷ (own_replies decision number outcome.state events ++ commit_reply (state_after decision outcome.state events) ∷ [])
      ≡ replies decision (mirror (state_after decision outcome.state events) os) (event ∷ (filter (is_own number) events ++ Commit number ∷ []))

  module _ (state : State) (session : Session) (events : List Event) (sound : IsSound state) (is_open : session_at state number ≡ Some session) (within : session.began ≤ length state.earlier)
      (later : (next : State) (session : Session) → Mirrors next events session) where
    -- the session after its own event, in the state of the run and in that of the run alone
    module _ (other : ℕ) (same : other ≡ number) where
      here : session_at state other ≡ Some session
      here = ap (session_at state) same ∙ is_open

      put_sound : (new : Session) → IsSound (with_session state other new)
      put_sound new = with_sound state other new sound (inl (ap is_some here))

      put_open : (new : Session) → session_at (with_session state other new) number ≡ Some new
      put_open new = ap (session_at (with_session state other new)) (sym same) ∙ with_it state other new

      put_found : (os : List (ℕ × Session)) (new : Session) → lookup (is_at (nat_cmp number)) (insert_entry nat_cmp os other new) ≡ Some new
      put_found os new = ap (λ (n : ℕ). lookup (is_at (nat_cmp n)) (insert_entry nat_cmp os other new)) (sym same) ∙ lookup-insert_entry_same nat_cmp_total other new os

      found_there : (final : State) (os : List (ℕ × Session)) (mine : Session) → lookup (is_at (nat_cmp number)) os ≡ Some mine → session_at (mirror final os) other ≡ Some mine
      found_there final os mine found = ap (λ (n : ℕ). lookup (is_at (nat_cmp n)) os) same ∙ found

    own_read : (other : ℕ) (elem : Elem) → other ≡ number → Own (open_step decision state other session (Read other elem)) (Read other elem) events session
    own_read other elem same = λ os leaves still decided found.
        let new : Session = advanced session (Read other elem) in
        let next : State = with_session state other new in
        let final : State = state_after decision next events in
        let step_there : step decision (mirror final os) (Read other elem) ≡ open_step decision (mirror final os) other (moved final session) (Read other elem) =
        ap (step_at decision (mirror final os) (Read other elem)) (found_there other same final os (moved final session) found) in
        let unmoved : later_change final session.began elem ≡ None = still elem (reads_stay number elem events new (reads_it elem session other)) in
        let content : content_of state.latest elem ≡ content_of final.latest elem =
        (along decision events next session.began elem (put_sound other same new) within unmoved).1 in
        let rest = later next new (insert_entry nat_cmp os other (moved final new)) (put_sound other same new) (put_open other same new) within leaves still decided (put_found other same os (moved final new)) in
        subst (λ (o : Outcome). Content (content_of state.latest elem) ∷ (own_replies decision number next events ++ commit_reply final ∷ [])
        ≡ o.reply ∷ replies decision o.state (filter (is_own number) events ++ Commit number ∷ [])) (sym step_there)
        (λ i. Content (content i) ∷ rest i)

    own_stage : (other : ℕ) (txn : Txn) → other ≡ number → Own (open_step decision state other session (Stage other txn)) (Stage other txn) events session
    own_stage other txn same = λ os leaves still decided found.
        let new : Session = advanced session (Stage other txn) in
        let next : State = with_session state other new in
        let final : State = state_after decision next events in
        let step_there : step decision (mirror final os) (Stage other txn) ≡ open_step decision (mirror final os) other (moved final session) (Stage other txn) =
        ap (step_at decision (mirror final os) (Stage other txn)) (found_there other same final os (moved final session) found) in
        let rest = later next new (insert_entry nat_cmp os other (moved final new)) (put_sound other same new) (put_open other same new) within leaves still decided (put_found other same os (moved final new)) in
        subst (λ (o : Outcome). Staged (length (session.staged ++ txn.ops)) ∷ (own_replies decision number next events ++ commit_reply final ∷ [])
        ≡ o.reply ∷ replies decision o.state (filter (is_own number) events ++ Commit number ∷ [])) (sym step_there)
        (λ i. Staged (length (session.staged ++ txn.ops)) ∷ rest i)

    own_first : (event : Event) → is_own number event ≡ true → Own (step decision state event) event events session
    own_first (Begin other) own = absurd (true≢false (sym own))
    own_first (Read other elem) own =
        let same : other ≡ number = eqb-true other number own in
        subst (λ (o : Outcome). Own o (Read other elem) events session) (sym (ap (step_at decision state (Read other elem)) (here other same))) (own_read other elem same)
    own_first (Stage other txn) own =
        let same : other ≡ number = eqb-true other number own in
        subst (λ (o : Outcome). Own o (Stage other txn) events session) (sym (ap (step_at decision state (Stage other txn)) (here other same))) (own_stage other txn same)
    own_first (Commit other) own = absurd (true≢false (sym own))
    own_first (Abort other) own = absurd (true≢false (sym own))

  -- the same with the test of the first event as a variable
  abbrev MirrorsBy : Bool → Event → List Event → State → Session → Type 0
  MirrorsBy own event events state session = (os : List (ℕ × Session)) → IsSound state → session_at state number ≡ Some session → session.began ≤ length state.earlier →
      (leaves_open number event && list_all (leaves_open number) events) ≡ true →
      IsStill (state_after decision (step decision state event).state events) session.began (after number (if own then advanced session event else session) events) →
      is_decision (commit_reply (state_after decision (step decision state event).state events)) ≡ true →
      lookup (is_at (nat_cmp number)) os ≡ Some (moved (state_after decision (step decision state event).state events) session) →
      (if own then (step decision state event).reply ∷ own_replies decision number (step decision state event).state events
      else own_replies decision number (step decision state event).state events)
      ++ commit_reply (state_after decision (step decision state event).state events) ∷ []
      ≡ replies decision (mirror (state_after decision (step decision state event).state events) os) (cond own (event ∷ filter (is_own number) events) (filter (is_own number) events) ++ Commit number ∷ [])

  mirrored : (events : List Event) (state : State) (session : Session) → Mirrors state events session
  mirrored [] state session = λ os sound is_open within leaves still decided found. ap (λ (r : Reply). r ∷ []) (same_commit state session os is_open decided found)
  mirrored (event ∷ events) state session = by (mirrored events) (is_own number event) refl
    where
      by : ((next : State) (session : Session) → Mirrors next events session) → (own : Bool) → is_own number event ≡ own → MirrorsBy own event events state session
      by later true own = λ os sound is_open within leaves still decided found.
          own_first state session events sound is_open within later event own os (and_parts _ _ leaves).1 still decided found
      by later false foreign = λ os sound is_open within leaves still decided found.
          let parts = and_parts _ _ leaves in
          let more : length state.earlier ≤ length (step decision state event).state.earlier = commits_grow decision state event sound in
          later (step decision state event).state session os (step_sound decision state event sound)
          (others decision number state session sound is_open event foreign parts.0) (omega arith) parts.1 still decided found

  -- ---- the whole run

  abbrev fresh : State → Session
  fresh state = record { began = length state.earlier; read = []; staged = [] }

  begins : (state : State) → session_at state number ≡ None → length state.sessions < 1000 →
      step decision state (Begin number) ≡ record { reply = Began; state = with_session state number (fresh state) }
  begins state closed room = rw (closed, lt-leb 1000 (length state.sessions) room)

  -- from what the Begin brings
  abbrev Ends : Outcome → List Event → Type 0
  Ends begun during = begun.reply ≡ Began → list_all (leaves_open number) during ≡ true → is_decision (commit_reply (state_after decision begun.state during)) ≡ true →
      Began ∷ (own_replies decision number begun.state during ++ commit_reply (state_after decision begun.state during) ∷ [])
      ≡ alone decision number (state_after decision begun.state during) (filter (is_own number) during) (Commit number)

  ends : (state : State) (during : List Event) → IsSound state → length state.sessions < 1000 → Ends (record { reply = Began; state = with_session state number (fresh state) }) during
  ends state during sound room = λ began leaves decided.
      let opened : State = with_session state number (fresh state) in
      let opened_sound : IsSound opened = with_sound state number (fresh state) sound (inr room) in
      let is_open : session_at opened number ≡ Some (fresh state) = with_it state number (fresh state) in
      let final : State = state_after decision opened during in
      let final_sound : IsSound final = run_sound decision during opened opened_sound in
      let last : Session = after number (fresh state) during in
      let there : session_at final number ≡ Some last = tracked decision number during opened (fresh state) opened_sound is_open leaves in
      let none : least_after (last_of final) (fresh state).began (watched last) ≡ None =
      ap (λ (n : ℕ). least_after (last_of final) n (watched last)) (sym (began_stays number during (fresh state))) ∙ unchanged final last there decided in
      let out : State = without_session final number in
      let gone : session_at out number ≡ None = lookup-remove_key_same nat_cmp_total number final.sessions final_sound.ascending in
      let one_less : length out.sessions + 1 ≡ length final.sessions =
      ap (λ (b : Bool). length out.sessions + cond b 1 0) (sym (ap is_some there)) ∙ length-remove_entry nat_cmp_total number final.sessions final_sound.ascending in
      let few : length final.sessions ≤ 1000 = final_sound.few in
      let rest = mirrored during opened (fresh state) (insert_entry nat_cmp out.sessions number (moved final (fresh state))) opened_sound is_open (omega arith) leaves
      (λ elem read. still_each final (fresh state).began elem last.read (flat_map named last.staged) none read) decided
      (lookup-insert_entry_same nat_cmp_total number (moved final (fresh state)) out.sessions) in
      subst (λ (o : Outcome). Began ∷ (own_replies decision number opened during ++ commit_reply final ∷ [])
      ≡ o.reply ∷ replies decision o.state (filter (is_own number) during ++ Commit number ∷ [])) (sym (begins out gone (omega arith)))
      (ap (λ (l : List Reply). Began ∷ l) rest)

  begun_ends : (state : State) (during : List Event) → IsSound state → Ends (begun state number) during
  begun_ends state during sound = by (nat_le 1000 (length state.sessions)) refl
    where
      by : (b : Bool) → nat_le 1000 (length state.sessions) ≡ b →
          Ends (if b then record { reply = TooManySessions; state = state } else record { reply = Began; state = with_session state number (fresh state) }) during
      by true full = λ began. absurd (no_begin began)
        where
          no_begin : TooManySessions ≡ Began → ⊥
          no_begin e = cc
      by false room = ends state during sound (omega (arith, leb-false 1000 (length state.sessions) room))

  found_ends : (state : State) (during : List Event) → IsSound state → (found : Option Session) → Ends (step_at decision state (Begin number) found) during
  found_ends state during sound None = begun_ends state during sound
  found_ends state during sound (Some session) = λ began. absurd (no_begin began)
    where
      no_begin : AlreadyOpen ≡ Began → ⊥
      no_begin e = cc

start_sound : IsSound start
unfolding IsStrictlySortedBy
start_sound = record { ascending = tt; few = omega arith }

pub runs_as_alone : (decision : Graph → Txn → Result Graph Rejection) → RunsAsAlone decision
runs_as_alone decision before during number =
    let state : State = state_after decision start before in
    found_ends decision number state during (run_sound decision before start start_sound) (session_at state number)
