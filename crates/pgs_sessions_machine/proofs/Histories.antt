-- How a state grows by events, and that an element which no later commit changed has one content in all states between.
use Rattle.std.proofs.Common.{◌≡◌, ℕ, ◌+◌, ◌<◌, ◌≤◌, ◌⊎◌, inl, inr, ⊎_elim, Bool, true, false, cond, List, [], ◌∷◌, length, Option, Some, None, is_some, Result, Ok, Err, refl, sym, ap, subst, ◌∙◌, arith}
use Rattle.std.specs.Prelude.{if◌then◌else◌, nat_lt, nat_le}
use Rattle.std.specs.Cmp.{nat_cmp_total}
use Rattle.std.specs.List.Sorted.{IsStrictlySortedBy}
use Rattle.std.specs.Map.{keys_of}
use Rattle.std.specs.Ordering.{nat_cmp}
use Rattle.std.specs.BTreeMap.{is_at, insert_entry}
use Rattle.std.proofs.lemmas.Bool.{leb-false, lt-ltb}
use Rattle.pgs_base.specs.declared.element.Elem.{Elem}
use Rattle.pgs_base.specs.Graph.{Graph}
use Rattle.pgs_base.proofs.Ascending.{ascending-insert_entry, ascending-remove_entry}
use Rattle.pgs_base.proofs.Lookups.{length-insert_entry, length-remove_entry}
use Rattle.pgs_graph.specs.declared.operation.Txn.{Txn}
use Rattle.pgs_violation.specs.declared.rejection.Rejection.{Rejection}
use Rattle.pgs_sessions_machine.specs.declared.event.Event.{Event}
use Rattle.pgs_sessions_machine.specs.declared.event.Event.TheVariants.{Begin, Read, Stage, Commit, Abort}
use Rattle.pgs_sessions_machine.specs.Content.{content_of, is_kept, last_change}
use Rattle.pgs_sessions_machine.specs.Machine.{Session, State, session_at, with_session, without_session, if_after, last_of, least_after, watched, decided, committed, begun, number_of, step_at, step, state_after}
use Rattle.pgs_sessions_machine.proofs.Contents.{content_same}

-- the sessions stand by ascending number, and there are at most 1,000
pub record IsSound (state : State) : Type 0 where
  pub ascending : IsStrictlySortedBy nat_cmp (keys_of state.sessions)
  pub few : length state.sessions ≤ 1000

-- a state has the graphs of another one, or one more
abbrev pub Grows : State → State → Type 0
Grows old new = ((new.latest ≡ old.latest) × (new.earlier ≡ old.earlier)) ⊎ (new.earlier ≡ old.latest ∷ old.earlier)

abbrev stays : (state : State) → Grows state state
stays state = inl (refl, refl)

pub with_sound : (state : State) (number : ℕ) (session : Session) → IsSound state →
    (is_some (session_at state number) ≡ true) ⊎ (length state.sessions < 1000) → IsSound (with_session state number session)
with_sound state number session sound room = record {
  ascending = ascending-insert_entry nat_cmp_total number session state.sessions sound.ascending;
  few = ⊎_elim
      (λ there. let e = length-insert_entry nat_cmp_total number state.sessions sound.ascending session ∙ ap (λ b. cond b (length state.sessions) (length state.sessions + 1)) there in let few = sound.few in omega arith)
      (λ less. by (is_some (session_at state number)) less (length-insert_entry nat_cmp_total number state.sessions sound.ascending session))
      room;
}
  where
    by : (b : Bool) → length state.sessions < 1000 → length (insert_entry nat_cmp state.sessions number session) ≡ cond b (length state.sessions) (length state.sessions + 1) →
        length (insert_entry nat_cmp state.sessions number session) ≤ 1000
    by true less e = omega arith
    by false less e = omega arith

pub without_sound : (state : State) (number : ℕ) → IsSound state → IsSound (without_session state number)
without_sound state number sound = record {
  ascending = ascending-remove_entry nat_cmp_total (is_at (nat_cmp number)) state.sessions sound.ascending;
  few = let e = length-remove_entry nat_cmp_total number state.sessions sound.ascending in let few = sound.few in omega arith;
}

-- ---- a decision changes no session, and a state without a session has its graphs

pub decided_open : (state : State) (decision : Result Graph Rejection) → (decided state decision).state.sessions ≡ state.sessions
decided_open state (Ok graph) = refl
decided_open state (Err rejection) = refl

decided_grows : (state : State) (decision : Result Graph Rejection) → Grows state (decided state decision).state
decided_grows state (Ok graph) = inr refl
decided_grows state (Err rejection) = stays state

sound_by : (old new : State) → new.sessions ≡ old.sessions → IsSound old → IsSound new
sound_by old new e sound = record {
  ascending = subst (λ (sessions : List (ℕ × Session)). IsStrictlySortedBy nat_cmp (keys_of sessions)) (sym e) sound.ascending;
  few = subst (λ (sessions : List (ℕ × Session)). length sessions ≤ 1000) (sym e) sound.few;
}

module _ (decision : Graph → Txn → Result Graph Rejection) where
  pub committed_open : (state : State) (session : Session) (change : Option (Elem × ℕ)) → (committed decision state session change).state.sessions ≡ state.sessions
  committed_open state session None = decided_open state (decision state.latest (record { ops = session.staged }))
  committed_open state session (Some change) = refl

  committed_grows : (state : State) (session : Session) (change : Option (Elem × ℕ)) → Grows state (committed decision state session change).state
  committed_grows state session None = decided_grows state (decision state.latest (record { ops = session.staged }))
  committed_grows state session (Some change) = stays state

  -- what an event brings is sound, and grows
  begun_steps : (state : State) (number : ℕ) → IsSound state → IsSound (begun state number).state × Grows state (begun state number).state
  begun_steps state number sound = by (nat_le 1000 (length state.sessions)) refl
    where
      fresh : Session
      fresh = record { began = length state.earlier; read = []; staged = [] }

      by : (b : Bool) → nat_le 1000 (length state.sessions) ≡ b →
          IsSound (begun state number).state × Grows state (begun state number).state
      by true full = rw full (sound, stays state)
      by false room = rw room (with_sound state number (record { began = length state.earlier; read = []; staged = [] }) sound (inr (omega (arith, leb-false 1000 (length state.sessions) room))), inl (refl, refl))

  step_steps : (state : State) (event : Event) → IsSound state → IsSound (step decision state event).state × Grows state (step decision state event).state
  step_steps state event sound = by event (session_at state (number_of event)) refl
    where
      by : (event : Event) (found : Option Session) → session_at state (number_of event) ≡ found →
          IsSound (step_at decision state event found).state × Grows state (step_at decision state event found).state
      by (Begin number) None e = begun_steps state number sound
      by (Read number elem) None e = (sound, stays state)
      by (Stage number txn) None e = (sound, stays state)
      by (Commit number) None e = (sound, stays state)
      by (Abort number) None e = (sound, stays state)
      by (Begin number) (Some session) e = (sound, stays state)
      by (Read number elem) (Some session) e = (with_sound state number _ sound (inl (ap is_some e)), inl (refl, refl))
      by (Stage number txn) (Some session) e = (with_sound state number _ sound (inl (ap is_some e)), inl (refl, refl))
      by (Commit number) (Some session) e =
          let out : State = without_session state number in
          let change : Option (Elem × ℕ) = least_after (last_of state) session.began (watched session) in (
            sound_by out (committed decision out session change).state (committed_open out session change) (without_sound state number sound),
            committed_grows out session change,
          )
      by (Abort number) (Some session) e = (without_sound state number sound, inl (refl, refl))

  pub step_sound : (state : State) (event : Event) → IsSound state → IsSound (step decision state event).state
  step_sound state event sound = (step_steps state event sound).0

  pub run_sound : (events : List Event) (state : State) → IsSound state → IsSound (state_after decision state events)
  run_sound [] state sound = sound
  run_sound (event ∷ events) state sound = run_sound events (step decision state event).state (step_sound state event sound)

-- ---- what no later commit changed

-- the last commit that changed an element, where it comes after so many others
abbrev pub later_change : State → ℕ → Elem → Option ℕ
later_change state began elem = if_after began (last_of state elem)

back : (old new : State) → Grows old new → (n : ℕ) (elem : Elem) → n ≤ length old.earlier → later_change new n elem ≡ None →
    (later_change old n elem ≡ None) × (content_of old.latest elem ≡ content_of new.latest elem)
back old new (inl same) n elem within h =
    let e : last_change elem new.latest new.earlier ≡ last_change elem old.latest old.earlier =
    ap (λ (g : Graph). last_change elem g new.earlier) same.0 ∙ ap (last_change elem old.latest) same.1 in
    (ap (if_after n) (sym e) ∙ h, ap (λ (g : Graph). content_of g elem) (sym same.0))
back old new (inr one) n elem within h =
    by (is_kept old.latest new.latest elem) refl (ap (λ (l : List Graph). if_after n (last_change elem new.latest l)) (sym one) ∙ h)
  where
    by : (b : Bool) → is_kept old.latest new.latest elem ≡ b →
        if_after n (if b then last_change elem old.latest old.earlier else Some (length old.earlier + 1)) ≡ None →
        (later_change old n elem ≡ None) × (content_of old.latest elem ≡ content_of new.latest elem)
    by true kept rest = (rest, content_same _ _ kept)
    by false changed rest =
        let after : nat_lt n (length old.earlier + 1) ≡ true = lt-ltb n (length old.earlier + 1) (omega arith) in
        let none : Some (length old.earlier + 1) ≡ None = rw after at rest in
        cc

grows_length : (old new : State) → Grows old new → length old.earlier ≤ length new.earlier
grows_length old new (inl same) = omega (arith, ap length same.1)
grows_length old new (inr one) = omega (arith, ap length one)

module _ (decision : Graph → Txn → Result Graph Rejection) where
  pub along : (events : List Event) (state : State) (n : ℕ) (elem : Elem) → IsSound state → n ≤ length state.earlier →
      later_change (state_after decision state events) n elem ≡ None →
      (later_change state n elem ≡ None) × (content_of state.latest elem ≡ content_of (state_after decision state events).latest elem)
  along [] state n elem sound within h = (h, refl)
  along (event ∷ events) state n elem sound within h =
      let next : State = (step decision state event).state in
      let steps : IsSound next × Grows state next = step_steps decision state event sound in
      let more : length state.earlier ≤ length next.earlier = grows_length state next steps.1 in
      let later = along events next n elem steps.0 (omega arith) h in
      let here = back state next steps.1 n elem within later.0 in
      (here.0, here.1 ∙ later.1)

  pub commits_grow : (state : State) (event : Event) → IsSound state → length state.earlier ≤ length (step decision state event).state.earlier
  commits_grow state event sound = grows_length state (step decision state event).state (step_steps decision state event sound).1
