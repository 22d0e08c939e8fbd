-- What lines tell one after another, and that each counts once at most.
use Rattle.std.proofs.Common.{◌≡◌, ℕ, suc, ◌+◌, ◌≤◌, Bool, true, false, List, [], ◌∷◌, ◌++◌, length, Option, Some, None, Result, Ok, Err, refl, sym, ap, ◌∙◌, append_assoc, arith}
use Rattle.std.specs.Prelude.{nat_le}
use Rattle.std.proofs.lemmas.List.{append-nil}
use Rattle.pgs_base.specs.declared.element.Elem.{Elem}
use Rattle.pgs_base.specs.Graph.{Graph}
use Rattle.pgs_run_sessions.specs.Events.{event_answer}
use Rattle.pgs_graph.specs.declared.operation.Txn.{Txn}
use Rattle.pgs_run_input.specs.Input.{is_skipped}
use Rattle.pgs_run_input.specs.Session.{standard}
use Rattle.pgs_run_sessions.specs.EventLines.{Stepped, Standing, after_answer, after_line, after_lines, pieces_of_line, pieces_of_lines}
use Rattle.pgs_run_sessions.specs.State.{brief_sessions}
use Rattle.pgs_sessions.specs.State.{deciding}
use Rattle.pgs_sessions.specs.Open.{at_number}
use Rattle.pgs_sessions.specs.Summary as brief
use Rattle.pgs_sessions.specs.Summary.{Summary}
use Rattle.pgs_sessions_machine.specs.declared.event.Event.{Event}
use Rattle.pgs_sessions_machine.specs.declared.event.Event.TheVariants.{Begin, Read, Stage, Commit, Abort}
use Rattle.pgs_sessions_machine.specs.Machine.{Session, least_after, watched, number_of}
use Rattle.pgs_syntax.specs.declared.resolved.Resolved.{Resolved}
use Rattle.pgs_violation.specs.declared.rejection.Rejection.{Rejection}

module _ {S : Type 0} (step : S → Event → Stepped S) where
  pub after_lines-append : (s : Standing S) (xs ys : List (List ℕ)) → after_lines step s (xs ++ ys) ≡ after_lines step (after_lines step s xs) ys
  after_lines-append s [] ys = refl
  after_lines-append s (x ∷ xs) ys = after_lines-append (after_line step s x) xs ys

  pub pieces_of_lines-append : (s : Standing S) (xs ys : List (List ℕ)) →
      pieces_of_lines step s (xs ++ ys) ≡ pieces_of_lines step s xs ++ pieces_of_lines step (after_lines step s xs) ys
  pieces_of_lines-append s [] ys = refl
  pieces_of_lines-append s (x ∷ xs) ys =
      ap (λ pieces. pieces_of_line step s x ++ pieces) (pieces_of_lines-append (after_line step s x) xs ys)
      ∙ sym (append_assoc (pieces_of_line step s x) (pieces_of_lines step (after_line step s x) xs) _)

  -- one line more
  pub pieces_of_one : (s : Standing S) (x : List ℕ) → pieces_of_lines step s (x ∷ []) ≡ pieces_of_line step s x
  pieces_of_one s x = append-nil (pieces_of_line step s x)

-- ---- counting

decided_commits : (s : Summary) (decision : Result Graph Rejection) → (brief.decided s decision).summary.commits ≤ s.commits + 1
decided_commits s (Ok graph) = omega arith
decided_commits s (Err rejection) = omega arith

begun_commits : (s : Summary) (number : ℕ) (full : Bool) → nat_le 1000 (length s.sessions) ≡ full → (brief.begun s number).summary.commits ≤ s.commits + 1
begun_commits s number true e = rw e (omega arith)
begun_commits s number false e = rw e (omega arith)

closed_commits : (s : Summary) (event : Event) → (brief.closed_step s event).summary.commits ≤ s.commits + 1
closed_commits s (Begin number) = begun_commits s number (nat_le 1000 (length s.sessions)) refl
closed_commits s (Read number elem) = omega arith
closed_commits s (Stage number txn) = omega arith
closed_commits s (Commit number) = omega arith
closed_commits s (Abort number) = omega arith

module _ (decision : Graph → Txn → Result Graph Rejection) where
  committed_commits : (s : Summary) (session : Session) (change : Option (Elem × ℕ)) → (brief.committed decision s session change).summary.commits ≤ s.commits + 1
  committed_commits s session (Some change) = omega arith
  committed_commits s session None = decided_commits s (decision s.graph (record { ops = session.staged }))

  open_commits : (s : Summary) (number : ℕ) (session : Session) (event : Event) → (brief.open_step decision s number session event).summary.commits ≤ s.commits + 1
  open_commits s number session (Begin _) = omega arith
  open_commits s number session (Read _ elem) = omega arith
  open_commits s number session (Stage _ txn) = omega arith
  open_commits s number session (Commit _) = committed_commits _ session (least_after s.last session.began (watched session))
  open_commits s number session (Abort _) = omega arith

  step_at_commits : (s : Summary) (event : Event) (found : Option Session) → (brief.step_at decision s event found).summary.commits ≤ s.commits + 1
  step_at_commits s event None = closed_commits s event
  step_at_commits s event (Some session) = open_commits s (number_of event) session event

  -- an event commits once at most
  pub step_commits : (s : Summary) (event : Event) → (brief.step decision s event).summary.commits ≤ s.commits + 1
  step_commits s event = step_at_commits s event (at_number s.sessions (number_of event))

pub record IsCounted (n : ℕ) (s : Standing Summary) : Type 0 where
  pub lines : s.number ≤ n
  pub commits : s.state.commits ≤ n

counted_answer : (n : ℕ) (schema : Resolved) (s : Standing Summary) (answer : Result Event (List ℕ)) → IsCounted n s → IsCounted (suc n) (after_answer (brief_sessions.step schema) s answer)
counted_answer n schema s (Ok event) c = record {
  lines = let h = c.lines in omega arith;
  commits = let h = c.commits in let more = step_commits (deciding schema standard) s.state event in omega (arith, more);
}
counted_answer n schema s (Err text) c = record { lines = let h = c.lines in omega arith; commits = let h = c.commits in omega arith }

-- a line counts once at most
pub counted_line : (n : ℕ) (schema : Resolved) (s : Standing Summary) (line : List ℕ) (blank : Bool) → is_skipped line ≡ blank → IsCounted n s →
    IsCounted (suc n) (after_line (brief_sessions.step schema) s line)
unfolding after_line
counted_line n schema s line true e c = rw e (record { lines = let h = c.lines in omega arith; commits = let h = c.commits in omega arith })
counted_line n schema s line false e c = rw e (counted_answer n schema s (event_answer line) c)
