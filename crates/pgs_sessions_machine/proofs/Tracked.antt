-- What events leave of one session that stays open.
use Rattle.std.proofs.Common.{◌≡◌, ℕ, Bool, true, false, true≢false, List, [], ◌∷◌, ◌++◌, length, Option, Some, None, refl, sym, ap, ◌∙◌, Result, is_eq}
use Rattle.std.specs.Prelude.{if◌then◌else◌, nat_le}
use Rattle.std.specs.Cmp.{nat_cmp_total, tied_itself, Equal-is}
use Rattle.std.specs.List.{list_all, list_any}
use Rattle.std.specs.Map.{lookup}
use Rattle.std.specs.Ordering.{nat_cmp}
use Rattle.std.specs.BTreeMap.{is_at}
use Rattle.std.specs.BTreeSet.{insert_key}
use Rattle.std.proofs.lemmas.Bool.{and_parts, eqb-false, eqb-true, false_from_ne_true, not-true, or_right, or_left}
use Rattle.std.proofs.lemmas.Map.Lookups.{exact_unsigned}
use Rattle.pgs_base.specs.declared.element.Elem.{Elem}
use Rattle.pgs_base.specs.Graph.{Graph}
use Rattle.pgs_base.specs.Order.{elem_cmp}
use Rattle.pgs_base.specs.OrderLaws.{elem_cmp_total}
use Rattle.pgs_base.proofs.Lookups.{lookup-insert_entry_same, lookup-insert_entry_other, lookup-remove_key_other, any-insert_key}
use Rattle.pgs_graph.specs.declared.operation.Txn.{Txn}
use Rattle.pgs_violation.specs.declared.rejection.Rejection.{Rejection}
use Rattle.pgs_sessions_machine.specs.declared.event.Event.{Event}
use Rattle.pgs_sessions_machine.specs.declared.event.Event.TheVariants.{Begin, Read, Stage, Commit, Abort}
use Rattle.pgs_sessions_machine.specs.Alone.{is_own, leaves_open}
use Rattle.pgs_sessions_machine.specs.Machine.{Session, State, session_at, with_session, without_session, last_of, least_after, watched, begun, number_of, step_at, step, state_after}
use Rattle.pgs_sessions_machine.proofs.Histories.{IsSound, committed_open, step_sound}

-- a session after a read or a stage of its own
abbrev pub advanced : Session → Event → Session
advanced session (Begin number) = session
advanced session (Read number elem) = record session { read = insert_key elem_cmp session.read elem }
advanced session (Stage number txn) = record session { staged = session.staged ++ txn.ops }
advanced session (Commit number) = session
advanced session (Abort number) = session

-- a session after events, of which it takes its own
abbrev pub after : ℕ → Session → List Event → Session
after number session [] = session
after number session (event ∷ events) = after number (if is_own number event then advanced session event else session) events

pub began_stays : (number : ℕ) (events : List Event) (session : Session) → (after number session events).began ≡ session.began
began_stays number [] session = refl
began_stays number (event ∷ events) session = began_stays number events (if is_own number event then advanced session event else session) ∙ by (is_own number event) event
  where
    by : (b : Bool) (event : Event) → (if b then advanced session event else session).began ≡ session.began
    by false event = refl
    by true (Begin number) = refl
    by true (Read number elem) = refl
    by true (Stage number txn) = refl
    by true (Commit number) = refl
    by true (Abort number) = refl

-- what it read stays read
abbrev pub has_read : Elem → Session → Bool
has_read elem session = list_any (is_at (elem_cmp elem)) session.read

pub reads_stay : (number : ℕ) (elem : Elem) (events : List Event) (session : Session) → has_read elem session ≡ true → has_read elem (after number session events) ≡ true
reads_stay number elem [] session h = h
reads_stay number elem (event ∷ events) session h = reads_stay number elem events (if is_own number event then advanced session event else session) (by (is_own number event) event)
  where
    by : (b : Bool) (event : Event) → has_read elem (if b then advanced session event else session) ≡ true
    by false event = h
    by true (Begin number) = h
    by true (Read number other) = any-insert_key elem_cmp_total elem other session.read ∙ or_right _ _ h
    by true (Stage number txn) = h
    by true (Commit number) = h
    by true (Abort number) = h

pub reads_it : (elem : Elem) (session : Session) (number : ℕ) → has_read elem (advanced session (Read number elem)) ≡ true
reads_it elem session number = any-insert_key elem_cmp_total elem elem session.read ∙ or_left _ _ (ap is_eq (tied_itself elem_cmp_total elem))

-- ---- events of other sessions

not_at : (a b : ℕ) → (a ≡ b → ⊥) → is_at (nat_cmp a) b ≡ false
not_at a b apart = false_from_ne_true _ (λ at. apart (exact_unsigned a b ((Equal-is (nat_cmp a b)).0 at)))

other_with : (state : State) (number other : ℕ) (session : Session) → (other ≡ number → ⊥) → session_at (with_session state other session) number ≡ session_at state number
other_with state number other session apart = lookup-insert_entry_other nat_cmp_total number other session state.sessions (not_at other number apart)

other_without : (state : State) (number other : ℕ) → IsSound state → (other ≡ number → ⊥) → session_at (without_session state other) number ≡ session_at state number
other_without state number other sound apart = lookup-remove_key_other nat_cmp_total number other state.sessions sound.ascending (not_at other number apart)

pub with_it : (state : State) (number : ℕ) (session : Session) → session_at (with_session state number session) number ≡ Some session
with_it state number session = lookup-insert_entry_same nat_cmp_total number session state.sessions

module _ (decision : Graph → Txn → Result Graph Rejection) (number : ℕ) (state : State) (session : Session) (sound : IsSound state) (is_open : session_at state number ≡ Some session) where
  closed_apart : (other : ℕ) → session_at state other ≡ None → other ≡ number → ⊥
  closed_apart other closed same = let e : session_at state number ≡ None = ap (session_at state) (sym same) ∙ closed in cc

  begun_apart : (other : ℕ) → session_at state other ≡ None → session_at (begun state other).state number ≡ Some session
  begun_apart other closed = by (nat_le 1000 (length state.sessions)) refl
    where
      by : (b : Bool) → nat_le 1000 (length state.sessions) ≡ b → session_at (begun state other).state number ≡ Some session
      by true full = rw full is_open
      by false room = rw room (other_with state number other _ (closed_apart other closed) ∙ is_open)

  -- an event that isn't the session's own leaves it as it is
  pub others : (event : Event) → is_own number event ≡ false → leaves_open number event ≡ true → session_at (step decision state event).state number ≡ Some session
  others event foreign leaves = by event foreign leaves (session_at state (number_of event)) refl
    where
      by : (event : Event) → is_own number event ≡ false → leaves_open number event ≡ true → (found : Option Session) → session_at state (number_of event) ≡ found →
          session_at (step_at decision state event found).state number ≡ Some session
      by (Begin other) foreign leaves None e = begun_apart other e
      by (Read other elem) foreign leaves None e = is_open
      by (Stage other txn) foreign leaves None e = is_open
      by (Commit other) foreign leaves None e = is_open
      by (Abort other) foreign leaves None e = is_open
      by (Begin other) foreign leaves (Some found) e = is_open
      by (Read other elem) foreign leaves (Some found) e = other_with state number other _ (eqb-false other number foreign) ∙ is_open
      by (Stage other txn) foreign leaves (Some found) e = other_with state number other _ (eqb-false other number foreign) ∙ is_open
      by (Commit other) foreign leaves (Some found) e =
          ap (lookup (is_at (nat_cmp number))) (committed_open decision (without_session state other) found (least_after (last_of state) found.began (watched found)))
          ∙ other_without state number other sound (eqb-false other number (not-true _ leaves)) ∙ is_open
      by (Abort other) foreign leaves (Some found) e = other_without state number other sound (eqb-false other number (not-true _ leaves)) ∙ is_open

  own_kept : (event : Event) → is_own number event ≡ true → session_at (step decision state event).state number ≡ Some (advanced session event)
  own_kept (Begin other) own = absurd (true≢false (sym own))
  own_kept (Read other elem) own =
      let same : other ≡ number = eqb-true other number own in
      let found : session_at state other ≡ Some session = ap (session_at state) same ∙ is_open in
      rw found (ap (session_at (with_session state other _)) (sym same) ∙ with_it state other _)
  own_kept (Stage other txn) own =
      let same : other ≡ number = eqb-true other number own in
      let found : session_at state other ≡ Some session = ap (session_at state) same ∙ is_open in
      rw found (ap (session_at (with_session state other _)) (sym same) ∙ with_it state other _)
  own_kept (Commit other) own = absurd (true≢false (sym own))
  own_kept (Abort other) own = absurd (true≢false (sym own))

  pub one_kept : (event : Event) → leaves_open number event ≡ true →
      session_at (step decision state event).state number ≡ Some (if is_own number event then advanced session event else session)
  one_kept event leaves = by (is_own number event) refl
    where
      by : (b : Bool) → is_own number event ≡ b → session_at (step decision state event).state number ≡ Some (if b then advanced session event else session)
      by true own = own_kept event own
      by false foreign = others event foreign leaves

-- a session that stays open has taken exactly its own events
pub tracked : (decision : Graph → Txn → Result Graph Rejection) (number : ℕ) (events : List Event) (state : State) (session : Session) → IsSound state →
    session_at state number ≡ Some session → list_all (leaves_open number) events ≡ true →
    session_at (state_after decision state events) number ≡ Some (after number session events)
tracked decision number [] state session sound is_open leaves = is_open
tracked decision number (event ∷ events) state session sound is_open leaves =
    let parts = and_parts _ _ leaves in
    tracked decision number events (step decision state event).state _ (step_sound decision state event sound)
    (one_kept decision number state session sound is_open event parts.0) parts.1
