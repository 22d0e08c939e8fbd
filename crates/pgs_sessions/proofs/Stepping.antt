-- What an event leaves is what it brings, in brief.
use Rattle.std.proofs.Common.{◌≡◌, ℕ, ◌+◌, ◌<◌, ◌≤◌, Bool, true, false, true≢false, cond, List, [], ◌∷◌, ◌++◌, length, Option, Some, None, is_some, Result, Ok, Err, refl, sym, ap, ◌∙◌}
use Rattle.std.specs.Prelude.{if◌then◌else◌, nat_le}
use Rattle.std.specs.Option.{option_map, option_map_or}
use Rattle.std.specs.Map.{remove_entry}
use Rattle.std.specs.Ordering.{nat_cmp}
use Rattle.std.specs.BTreeMap.{is_at, insert_entry}
use Rattle.std.proofs.lemmas.Bool.{le-leb, lt-leb}
use Rattle.pgs_base.specs.declared.element.Elem.{Elem}
use Rattle.pgs_base.specs.Graph.{Graph}
use Rattle.pgs_graph.specs.declared.operation.Txn.{Txn}
use Rattle.pgs_sessions_machine.specs.declared.event.Content.{Content}
use Rattle.pgs_sessions_machine.specs.declared.event.Event.{Event}
use Rattle.pgs_sessions_machine.specs.declared.event.Event.TheVariants.{Begin, Read, Stage, Commit, Abort}
use Rattle.pgs_sessions_machine.specs.declared.event.Reply.{Reply}
use Rattle.pgs_sessions_machine.specs.declared.event.Reply.TheVariants.{Began, Staged, Committed, Aborted, Rejected, AlreadyOpen, NoSession, Stale, TooManySessions}
use Rattle.pgs_sessions_machine.specs.declared.event.Reply.TheVariants as replies
use Rattle.pgs_sessions_machine.specs.Content.{content_of, is_kept}
use Rattle.pgs_sessions_machine.specs.Machine.{Session, least_after, watched, number_of}
use Rattle.pgs_sessions.specs.declared.changes.Changes.{Changes}
use Rattle.pgs_sessions.specs.Changes.{number_in, last_in}
use Rattle.pgs_sessions.specs.Committing.{Follows}
use Rattle.pgs_sessions.specs.Open.{at_number, fresh, reading, staging, changed_at}
use Rattle.pgs_sessions.specs.State.{SessionsState, kept_number, deciding, summary_in, IsTaken, Takes}
use Rattle.pgs_sessions.specs.Summary.{replying, decided, committed, begun, closed_step, step_at}
use Rattle.pgs_sessions.proofs.Committed.{same_number}
use Rattle.pgs_store.specs.State.{GuardState}
use Rattle.pgs_violation.specs.declared.rejection.Rejection.{Rejection}
use Rattle.pgs_violation.specs.Decision.{decide}
use Rattle.pgs_violation.specs.Violations.{verdict}

-- other sessions are open
abbrev pub opening : SessionsState → List (ℕ × Session) → SessionsState
opening old sessions = record old { sessions = sessions }

module _ (old : SessionsState) (number : ℕ) where
  abbrev decision_in : Graph → Txn → Result Graph Rejection
  decision_in = deciding old.guard.schema old.guard.limits

  -- by the session that is found
  taken_at : (event : Event) (found : Option Session) (reply : Reply) (sessions : List (ℕ × Session)) → at_number old.sessions (number_of event) ≡ found →
      step_at decision_in (summary_in old) event found ≡ record { reply = reply; summary = summary_in (opening old sessions) } →
      IsTaken event old reply (opening old sessions)
  taken_at event found reply sessions e brings = record {
    schema = refl;
    limits = refl;
    brought = ap (step_at decision_in (summary_in old) event) e ∙ brings;
  }

  -- ---- an event that is refused

  pub no_session : (event : Event) → at_number old.sessions (number_of event) ≡ None →
      closed_step (summary_in old) event ≡ record { reply = NoSession; summary = summary_in old } → Takes event old (Ok NoSession) old
  no_session event closed brings = taken_at event None NoSession old.sessions closed brings

  pub already_open : is_some (at_number old.sessions number) ≡ true → Takes (Begin number) old (Ok AlreadyOpen) old
  already_open there = by (at_number old.sessions number) refl there
    where
      by : (found : Option Session) → at_number old.sessions number ≡ found → is_some found ≡ true → Takes (Begin number) old (Ok AlreadyOpen) old
      by None e there = absurd (true≢false (sym there))
      by (Some session) e there = taken_at (Begin number) (Some session) AlreadyOpen old.sessions e refl

  full_begun : (b : Bool) → nat_le 1000 (length old.sessions) ≡ b → b ≡ true → begun (summary_in old) number ≡ record { reply = TooManySessions; summary = summary_in old }
  full_begun true e is = rw e refl
  full_begun false e is = absurd (true≢false (sym is))

  pub too_many : at_number old.sessions number ≡ None → 1000 ≤ length old.sessions → Takes (Begin number) old (Ok TooManySessions) old
  too_many closed full = taken_at (Begin number) None TooManySessions old.sessions closed (full_begun _ refl (le-leb 1000 (length old.sessions) full))

  -- ---- an event that changes one session

  room_begun : (b : Bool) → nat_le 1000 (length old.sessions) ≡ b → b ≡ false →
      begun (summary_in old) number ≡ replying Began (summary_in old) (insert_entry nat_cmp old.sessions number (fresh old.guard.commits))
  room_begun true e is = absurd (true≢false is)
  room_begun false e is = rw e refl

  pub began : (sessions : List (ℕ × Session)) → at_number old.sessions number ≡ None → length old.sessions < 1000 →
      sessions ≡ insert_entry nat_cmp old.sessions number (fresh old.guard.commits) → Takes (Begin number) old (Ok Began) (opening old sessions)
  began sessions closed room made =
      taken_at (Begin number) None Began sessions closed
      (room_begun _ refl (lt-leb 1000 (length old.sessions) room) ∙ ap (replying Began (summary_in old)) (sym made))

  put_in : (change : Session → Session) (sessions : List (ℕ × Session)) (session : Session) → at_number old.sessions number ≡ Some session →
      sessions ≡ changed_at change old.sessions number → insert_entry nat_cmp old.sessions number (change session) ≡ sessions
  put_in change sessions session e made =
      sym (made ∙ ap (λ (found : Option Session). option_map_or (λ (s : Session). insert_entry nat_cmp old.sessions number (change s)) found old.sessions) e)

  pub has_read : (sessions : List (ℕ × Session)) (elem : Elem) (content : Content) → is_some (at_number old.sessions number) ≡ true →
      content ≡ content_of old.guard.graph elem → sessions ≡ changed_at (reading elem) old.sessions number →
      Takes (Read number elem) old (Ok (replies.Content content)) (opening old sessions)
  has_read sessions elem content there read made = by (at_number old.sessions number) refl there
    where
      by : (found : Option Session) → at_number old.sessions number ≡ found → is_some found ≡ true →
          Takes (Read number elem) old (Ok (replies.Content content)) (opening old sessions)
      by None e there = absurd (true≢false (sym there))
      by (Some session) e there =
          taken_at (Read number elem) (Some session) (replies.Content content) sessions e
          (λ i. replying (replies.Content (sym read i)) (summary_in old) (put_in (reading elem) sessions session e made i))

  pub has_staged : (sessions : List (ℕ × Session)) (txn : Txn) (count : ℕ) →
      Some count ≡ option_map (λ (session : Session). length (staging txn.ops session).staged) (at_number old.sessions number) →
      sessions ≡ changed_at (staging txn.ops) old.sessions number → Takes (Stage number txn) old (Ok (Staged count)) (opening old sessions)
  has_staged sessions txn count counted made = by (at_number old.sessions number) refl counted
    where
      by : (found : Option Session) → at_number old.sessions number ≡ found →
          Some count ≡ option_map (λ (session : Session). length (staging txn.ops session).staged) found →
          Takes (Stage number txn) old (Ok (Staged count)) (opening old sessions)
      by None e counted = absurd (true≢false (ap is_some counted))
      by (Some session) e counted =
          let same : count ≡ length (session.staged ++ txn.ops) = cc in
          taken_at (Stage number txn) (Some session) (Staged count) sessions e
          (λ i. replying (Staged (sym same i)) (summary_in old) (put_in (staging txn.ops) sessions session e made i))

  none_staged : (txn : Txn) (found : Option Session) → None ≡ option_map (λ (session : Session). length (staging txn.ops session).staged) found → found ≡ None
  none_staged txn None none = refl
  none_staged txn (Some session) none = absurd (true≢false (sym (ap is_some none)))

  pub not_staged : (sessions : List (ℕ × Session)) (txn : Txn) →
      None ≡ option_map (λ (session : Session). length (staging txn.ops session).staged) (at_number old.sessions number) →
      sessions ≡ changed_at (staging txn.ops) old.sessions number → Takes (Stage number txn) old (Ok NoSession) (opening old sessions)
  not_staged sessions txn none made =
      let closed : at_number old.sessions number ≡ None = none_staged txn (at_number old.sessions number) none in
      let same : old.sessions ≡ sessions =
      sym (made ∙ ap (λ (found : Option Session). option_map_or (λ (s : Session). insert_entry nat_cmp old.sessions number (staging txn.ops s)) found old.sessions) closed) in
      taken_at (Stage number txn) None NoSession sessions closed (ap (replying NoSession (summary_in old)) same)

  closed_by : (found : Option Session) → is_some found ≡ false → found ≡ None
  closed_by None none = refl
  closed_by (Some session) none = absurd (true≢false none)

  pub aborted : (sessions : List (ℕ × Session)) (answered : Bool) → answered ≡ is_some (at_number old.sessions number) → answered ≡ true →
      sessions ≡ remove_entry (is_at (nat_cmp number)) old.sessions → Takes (Abort number) old (Ok Aborted) (opening old sessions)
  aborted sessions answered answer there made = by (at_number old.sessions number) refl (sym answer ∙ there)
    where
      by : (found : Option Session) → at_number old.sessions number ≡ found → is_some found ≡ true → Takes (Abort number) old (Ok Aborted) (opening old sessions)
      by None e there = absurd (true≢false (sym there))
      by (Some session) e there = taken_at (Abort number) (Some session) Aborted sessions e (ap (replying Aborted (summary_in old)) (sym made))

  -- where no session is closed nothing is left out
  none_removed : (es : List (ℕ × Session)) → at_number es number ≡ None → remove_entry (is_at (nat_cmp number)) es ≡ es
  none_removed [] none = refl
  none_removed (e ∷ es) none = by (none_removed es) (is_at (nat_cmp number) e.0) none
    where
      by : (at_number es number ≡ None → remove_entry (is_at (nat_cmp number)) es ≡ es) → (here : Bool) →
          cond here (Some e.1) (at_number es number) ≡ None → cond here es (e ∷ remove_entry (is_at (nat_cmp number)) es) ≡ e ∷ es
      by rest true none = cc
      by rest false none = ap (λ (l : List (ℕ × Session)). e ∷ l) (rest none)

  pub not_aborted : (sessions : List (ℕ × Session)) (answered : Bool) → answered ≡ is_some (at_number old.sessions number) → answered ≡ false →
      sessions ≡ remove_entry (is_at (nat_cmp number)) old.sessions → Takes (Abort number) old (Ok NoSession) (opening old sessions)
  not_aborted sessions answered answer none made =
      let closed : at_number old.sessions number ≡ None = closed_by (at_number old.sessions number) (sym answer ∙ none) in
      taken_at (Abort number) None NoSession sessions closed (ap (replying NoSession (summary_in old)) (sym (made ∙ none_removed old.sessions closed)))

  -- ---- a commit

  pub stale : (sessions : List (ℕ × Session)) (session : Session) (elem : Elem) (commit : ℕ) → at_number old.sessions number ≡ Some session →
      Some (elem, commit) ≡ least_after (kept_number old) session.began (watched session) →
      sessions ≡ remove_entry (is_at (nat_cmp number)) old.sessions → Takes (Commit number) old (Ok (Stale elem commit)) (opening old sessions)
  stale sessions session elem commit e least made =
      taken_at (Commit number) (Some session) (Stale elem commit) sessions e
      (λ i. committed decision_in (record (summary_in old) { sessions = sym made i }) session (sym least i))

  -- what is left where a decision brought this of guard and numbers
  abbrev pub left : GuardState → Changes → List (ℕ × Session) → SessionsState
  left guard changes sessions = record { guard = guard; nodes = changes.nodes.rows; edges = changes.edges.rows; sessions = sessions }

  module _ (before after : Changes) (nodes : old.nodes ≡ before.nodes.rows) (edges : old.edges ≡ before.edges.rows) (guard : GuardState) (sessions : List (ℕ × Session)) where
    same_rows : (elem : Elem) → kept_number old elem ≡ last_in before elem
    same_rows elem = λ i. number_in (nodes i) (edges i) elem

    -- of the state in which the session is closed
    brings : (reply : Reply) (decision : Result Graph Rejection) → Follows old.guard guard before after reply decision →
        decided (record (summary_in old) { sessions = sessions }) decision ≡ record { reply = reply; summary = summary_in (left guard after sessions) }
    brings reply (Ok next) follows = λ i. record {
      reply = sym follows.replied i;
      summary = record {
        graph = sym (ap (λ (g : GuardState). g.graph) follows.guard) i;
        commits = sym (ap (λ (g : GuardState). g.commits) follows.guard) i;
        last = λ elem. (ap (λ (o : Option ℕ). if is_kept old.guard.graph next elem then o else Some (old.guard.commits + 1)) (same_rows elem) ∙ sym (follows.numbers elem)) i;
        sessions = sessions;
      };
    }
    brings reply (Err rejection) follows = λ i. record {
      reply = sym follows.replied i;
      summary = record {
        graph = sym (ap (λ (g : GuardState). g.graph) follows.guard) i;
        commits = sym (ap (λ (g : GuardState). g.commits) follows.guard) i;
        last = λ elem. (same_rows elem ∙ sym (same_number before after follows.numbers elem)) i;
        sessions = sessions;
      };
    }

    schema_left : (reply : Reply) (decision : Result Graph Rejection) → Follows old.guard guard before after reply decision → guard.schema ≡ old.guard.schema
    schema_left reply (Ok next) follows = ap (λ (g : GuardState). g.schema) follows.guard
    schema_left reply (Err rejection) follows = ap (λ (g : GuardState). g.schema) follows.guard

    limits_left : (reply : Reply) (decision : Result Graph Rejection) → Follows old.guard guard before after reply decision → guard.limits ≡ old.guard.limits
    limits_left reply (Ok next) follows = ap (λ (g : GuardState). g.limits) follows.guard
    limits_left reply (Err rejection) follows = ap (λ (g : GuardState). g.limits) follows.guard

    pub decided_commit : (session : Session) (reply : Reply) → at_number old.sessions number ≡ Some session → None ≡ least_after (kept_number old) session.began (watched session) →
        sessions ≡ remove_entry (is_at (nat_cmp number)) old.sessions →
        Follows old.guard guard before after reply (decide old.guard.limits (verdict old.guard.schema) old.guard.graph (record { ops = session.staged })) →
        Takes (Commit number) old (Ok reply) (left guard after sessions)
    decided_commit session reply e none made follows =
        let decision : Result Graph Rejection = decide old.guard.limits (verdict old.guard.schema) old.guard.graph (record { ops = session.staged }) in
        record {
          schema = schema_left reply decision follows;
          limits = limits_left reply decision follows;
          brought = ap (step_at decision_in (summary_in old) (Commit number)) e
              ∙ (λ i. committed decision_in (record (summary_in old) { sessions = sym made i }) session (sym none i))
              ∙ brings reply decision follows;
        }
