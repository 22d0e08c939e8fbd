-- The machine refuses exactly as it is said in words.
use Rattle.std.proofs.Common.{◌≡◌, ◌↔◌, ℕ, ◌+◌, ◌<◌, Bool, true, false, true≢false, [], length, Option, Some, None, is_some, Result, Ok, Err, refl, sym, ap, subst, ◌∙◌, arith}
use Rattle.std.specs.Prelude.{if◌then◌else◌, nat_le}
use Rattle.std.proofs.lemmas.Bool.{leb-true, le-leb}
use Rattle.pgs_base.specs.declared.element.Elem.{Elem}
use Rattle.pgs_base.specs.Graph.{Graph}
use Rattle.pgs_base.specs.Order.{elem_cmp}
use Rattle.pgs_graph.specs.declared.operation.Txn.{Txn}
use Rattle.pgs_violation.specs.declared.rejection.Rejection.{Rejection}
use Rattle.pgs_sessions_machine.specs.declared.event.Content.{Content as Found}
use Rattle.pgs_sessions_machine.specs.declared.event.Event.{Event}
use Rattle.pgs_sessions_machine.specs.declared.event.Event.TheVariants.{Begin, Read, Stage, Commit, Abort}
use Rattle.pgs_sessions_machine.specs.declared.event.Reply.{Reply}
use Rattle.pgs_sessions_machine.specs.declared.event.Reply.TheVariants.{Began, Content, Staged, Committed, Aborted, Rejected, AlreadyOpen, NoSession, Stale, TooManySessions}
use Rattle.pgs_sessions_machine.specs.Machine.{Session, State, Outcome, session_at, with_session, without_session, last_of, least_after, watched, decided, committed, number_of, step_at, step}
use Rattle.pgs_sessions_machine.specs.Meaning.{is_begin, IsOutdated, IsStale, IsFull}
use Rattle.pgs_sessions_machine.proofs.Outdated.{IsFound, Tells, tells, found_once}
use Rattle.pgs_syntax.specs.Least.{IsLeast}

no_some : {A : Type 0} (x : A) → None ≡ Some x → ⊥
no_some x e = absurd (true≢false (sym (ap is_some e)))

module _ (decision : Graph → Txn → Result Graph Rejection) (state : State) where
  -- ---- the Begin of a session

  abbrev begun_by : ℕ → Bool → Outcome
  begun_by number b =
      if b then record { reply = TooManySessions; state = state }
      else record { reply = Began; state = with_session state number (record { began = length state.earlier; read = []; staged = [] }) }

  not_open : (number : ℕ) (b : Bool) → (begun_by number b).reply ≡ AlreadyOpen → ⊥
  not_open number true e = cc
  not_open number false e = cc

  pub already_open : (number : ℕ) → ((step decision state (Begin number)).reply ≡ AlreadyOpen) ↔ (is_some (session_at state number) ≡ true)
  already_open number = by (session_at state number)
    where
      by : (found : Option Session) → ((step_at decision state (Begin number) found).reply ≡ AlreadyOpen) ↔ (is_some found ≡ true)
      by None = (λ e. absurd (not_open number (nat_le 1000 (length state.sessions)) e), λ h. absurd (true≢false (sym h)))
      by (Some session) = (λ e. refl, λ h. refl)

  pub too_many : (number : ℕ) → ((step decision state (Begin number)).reply ≡ TooManySessions) ↔ IsFull state number
  too_many number = by (session_at state number) refl (nat_le 1000 (length state.sessions)) refl
    where
      no_began : Began ≡ TooManySessions → ⊥
      no_began e = cc

      no_open : AlreadyOpen ≡ TooManySessions → ⊥
      no_open e = cc

      of_begun : session_at state number ≡ None → (b : Bool) → nat_le 1000 (length state.sessions) ≡ b → ((begun_by number b).reply ≡ TooManySessions) ↔ IsFull state number
      of_begun closed true full = (λ h. (closed, leb-true 1000 (length state.sessions) full), λ h. refl)
      of_begun closed false room = (λ h. absurd (no_began h), λ h. absurd (true≢false (sym (le-leb 1000 (length state.sessions) h.1) ∙ room)))

      by : (found : Option Session) → session_at state number ≡ found → (b : Bool) → nat_le 1000 (length state.sessions) ≡ b →
          ((step_at decision state (Begin number) found).reply ≡ TooManySessions) ↔ IsFull state number
      by None closed b e = of_begun closed (nat_le 1000 (length state.sessions)) refl
      by (Some session) there b e = (λ h. absurd (no_open h), λ h. absurd (no_some session (sym h.0 ∙ there)))

  -- ---- the other events

  decided_is_no_refusal : (old : State) (decision : Result Graph Rejection) (reply : Reply) → (decided old decision).reply ≡ reply →
      ((commit : ℕ) → Committed commit ≡ reply → ⊥) → ((rejection : Rejection) → Rejected rejection ≡ reply → ⊥) → ⊥
  decided_is_no_refusal old (Ok graph) reply e no_commit no_rejection = no_commit (length old.earlier + 1) e
  decided_is_no_refusal old (Err rejection) reply e no_commit no_rejection = no_rejection rejection e

  committed_is_open : (old : State) (session : Session) (change : Option (Elem × ℕ)) → (committed decision old session change).reply ≡ NoSession → ⊥
  committed_is_open old session None e =
      decided_is_no_refusal old (decision old.latest (record { ops = session.staged })) NoSession e (λ commit h. no_commit commit h) (λ rejection h. no_rejection rejection h)
    where
      no_commit : (commit : ℕ) → Committed commit ≡ NoSession → ⊥
      no_commit commit h = cc

      no_rejection : (rejection : Rejection) → Rejected rejection ≡ NoSession → ⊥
      no_rejection rejection h = cc
  committed_is_open old session (Some change) e = cc

  pub no_session : (event : Event) → is_begin event ≡ false → ((step decision state event).reply ≡ NoSession) ↔ (session_at state (number_of event) ≡ None)
  no_session event other = by event other (session_at state (number_of event)) refl
    where
      no_content : (content : Found) → Content content ≡ NoSession → ⊥
      no_content content e = cc

      no_stage : (count : ℕ) → Staged count ≡ NoSession → ⊥
      no_stage count e = cc

      no_abort : Aborted ≡ NoSession → ⊥
      no_abort e = cc

      by : (event : Event) → is_begin event ≡ false → (found : Option Session) → session_at state (number_of event) ≡ found →
          ((step_at decision state event found).reply ≡ NoSession) ↔ (session_at state (number_of event) ≡ None)
      by (Begin number) other found e = absurd (true≢false other)
      by (Read number elem) other None e = (λ h. e, λ h. refl)
      by (Stage number txn) other None e = (λ h. e, λ h. refl)
      by (Commit number) other None e = (λ h. e, λ h. refl)
      by (Abort number) other None e = (λ h. e, λ h. refl)
      by (Read number elem) other (Some session) e = (λ h. absurd (no_content _ h), λ h. absurd (no_some session (sym h ∙ e)))
      by (Stage number txn) other (Some session) e = (λ h. absurd (no_stage _ h), λ h. absurd (no_some session (sym h ∙ e)))
      by (Commit number) other (Some session) e =
          (λ h. absurd (committed_is_open (without_session state number) session (least_after (last_of state) session.began (watched session)) h), λ h. absurd (no_some session (sym h ∙ e)))
      by (Abort number) other (Some session) e = (λ h. absurd (no_abort h), λ h. absurd (no_some session (sym h ∙ e)))

  -- ---- a commit that comes too late

  stale_is : (old : State) (session : Session) (elem : Elem) (commit : ℕ) (change : Option (Elem × ℕ)) → (committed decision old session change).reply ≡ Stale elem commit →
      change ≡ Some (elem, commit)
  stale_is old session elem commit None e =
      absurd (decided_is_no_refusal old (decision old.latest (record { ops = session.staged })) (Stale elem commit) e (λ n h. no_commit n h) (λ rejection h. no_rejection rejection h))
    where
      no_commit : (n : ℕ) → Committed n ≡ Stale elem commit → ⊥
      no_commit n h = cc

      no_rejection : (rejection : Rejection) → Rejected rejection ≡ Stale elem commit → ⊥
      no_rejection rejection h = cc
  stale_is old session elem commit (Some change) e =
      let same : change.0 ≡ elem = cc in let numbers : change.1 ≡ commit = cc in λ i. Some (same i, numbers i)

  module _ (session : Session) (elem : Elem) (commit : ℕ) where
    abbrev IsLeastOne : Type 0
    IsLeastOne = IsFound (last_of state) session.began (watched session) (elem, commit)

    said : IsLeastOne → IsLeast elem_cmp (IsOutdated state session) elem
    said found = record {
      is = (found.member, (commit, found.number, found.late));
      others_after = λ y out. found.first y out.0 out.1;
    }

    meant : IsLeast elem_cmp (IsOutdated state session) elem → last_of state elem ≡ Some commit → IsLeastOne
    meant least number = record {
      member = least.is.0;
      number = number;
      late = late least.is.1.0 least.is.1.1 least.is.1.2;
      first = λ y there late. least.others_after y (there, late);
    }
      where
        late : (m : ℕ) → last_of state elem ≡ Some m → session.began < m → session.began < commit
        late m is after = let e : Some m ≡ Some commit = sym is ∙ number in let same : m ≡ commit = cc in omega arith

    least_is : (change : Option (Elem × ℕ)) → Tells (last_of state) session.began (watched session) change → IsLeastOne → change ≡ Some (elem, commit)
    least_is None told found = absurd (told elem found.member (commit, found.number, found.late))
    least_is (Some change) told found = ap Some (found_once (last_of state) session.began (watched session) change (elem, commit) told found)

  pub stale : (number : ℕ) (elem : Elem) (commit : ℕ) → ((step decision state (Commit number)).reply ≡ Stale elem commit) ↔ IsStale state number elem commit
  stale number elem commit = by (session_at state number) refl
    where
      no_stale : NoSession ≡ Stale elem commit → ⊥
      no_stale e = cc

      by : (found : Option Session) → session_at state number ≡ found → ((step_at decision state (Commit number) found).reply ≡ Stale elem commit) ↔ IsStale state number elem commit
      by None closed = (λ h. absurd (no_stale h), λ h. absurd (no_some h.0 (sym closed ∙ h.1)))
      by (Some session) there = (forward, backward)
        where
          forward : (committed decision (without_session state number) session (least_after (last_of state) session.began (watched session))).reply ≡ Stale elem commit → IsStale state number elem commit
          forward h =
              let is : least_after (last_of state) session.began (watched session) ≡ Some (elem, commit) =
              stale_is (without_session state number) session elem commit (least_after (last_of state) session.began (watched session)) h in
              let found : IsLeastOne session elem commit =
              subst (Tells (last_of state) session.began (watched session)) is (tells (last_of state) session.began (watched session)) in
              (session, there, said session elem commit found, found.number)

          backward : IsStale state number elem commit →
              (committed decision (without_session state number) session (least_after (last_of state) session.began (watched session))).reply ≡ Stale elem commit
          backward h =
              let both : Some h.0 ≡ Some session = sym h.1 ∙ there in
              let same : h.0 ≡ session = cc in
              let least : IsLeast elem_cmp (IsOutdated state session) elem = subst (λ (s : Session). IsLeast elem_cmp (IsOutdated state s) elem) same h.2 in
              let is = least_is session elem commit (least_after (last_of state) session.began (watched session)) (tells (last_of state) session.began (watched session))
              (meant session elem commit least h.3) in
              ap (λ (c : Option (Elem × ℕ)). (committed decision (without_session state number) session c).reply) is
