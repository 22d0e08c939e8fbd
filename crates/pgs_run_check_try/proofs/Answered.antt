-- What is told of a line, by what is told of its answer, and where the session stands behind it.
use Rattle.std.proofs.Common.{◌≡◌, inl, ℕ, ◌+◌, Bool, true, false, true≢false, List, [], ◌∷◌, Result, Ok, Err, refl, sym, ap, subst, ◌∙◌}
use Rattle.pgs_base.specs.Graph.{Graph}
use Rattle.pgs_graph.specs.declared.operation.Txn.{Txn}
use Rattle.pgs_syntax.specs.declared.resolved.Resolved.{Resolved}
use Rattle.pgs_violation.specs.declared.rejection.Rejection.{Rejection}
use Rattle.pgs_violation.specs.Staging.{staged}
use Rattle.pgs_violation.specs.Violations.{verdict}
use Rattle.pgs_store.specs.State.{GuardState}
use Rattle.pgs_run_input.specs.Answers.{txn_answer}
use Rattle.pgs_run_input.specs.Input.{is_skipped}
use Rattle.pgs_run_input.specs.Session.{Standing, after_answer, after_line as standing_after, answer_to, answer_to_txn, decision_on, pieces_of_line, standard, with_text}
use Rattle.pgs_run_check_try.specs.Causes.{AreLineCauses, AreReadCauses, AreStagedCauses, AreTxnCauses}
use Rattle.pgs_run_check_try.specs.Lines.{accepted_line}
use Rattle.pgs_run_check_try.specs.State.{SessionState, TellsLine, TellsWith, session_after, state_of}
use Rattle.pgs_run_check_try.specs.Told.{with_causes}
use Rattle.pgs_run_check_try.proofs.Decided.{none_accepted}

-- ---- a transaction

module _ (text : List ℕ) (schema : Resolved) (s : Standing) (txn : Txn) where
  abbrev IsRight : List (List ℕ) → Type 0
  IsRight = AreStagedCauses text schema (staged standard s.graph txn)

  -- it is accepted
  pub tells_accepted : (after : Graph) (commit : ℕ) (pieces : List (List ℕ)) → decision_on (verdict schema) s.graph txn ≡ Ok after → commit ≡ s.commits + 1 → pieces ≡ accepted_line (s.number + 1) commit ∷ []
      → TellsWith IsRight s (answer_to_txn (verdict schema) s.graph (Ok txn)) pieces
  tells_accepted after commit pieces is number told = record {
    texts = [];
    right = none_accepted text schema s.graph txn after is;
    is = told ∙ ap (λ n. accepted_line (s.number + 1) n ∷ []) number ∙ sym (ap (λ (d : Result Graph Rejection). with_causes (λ k. []) s (with_text d)) is);
  }

  -- it is rejected
  pub tells_rejected : (rejection : Rejection) (pieces : List (List ℕ)) → decision_on (verdict schema) s.graph txn ≡ Err rejection → TellsWith IsRight s (with_text (Err rejection)) pieces
      → TellsWith IsRight s (answer_to_txn (verdict schema) s.graph (Ok txn)) pieces
  tells_rejected rejection pieces is told = subst (λ (d : Result Graph Rejection). TellsWith IsRight s (with_text d) pieces) (sym is) told

-- the session on a guard that accepted it
abbrev taken : (guard : GuardState) (number : ℕ) → Bool → Txn → SessionState
taken guard number refused txn =
    let s = state_of guard number refused in record s { standing = after_answer s.standing (answer_to_txn (verdict s.schema) s.standing.graph (Ok txn)) }

pub session_accepted : (old new : GuardState) (number : ℕ) (refused : Bool) (txn : Txn) → decision_on (verdict old.schema) old.graph txn ≡ Ok new.graph → new ≡ record old { graph = new.graph; commits = old.commits + 1 }
    → state_of new (number + 1) refused ≡ taken old number refused txn
session_accepted old new number refused txn is kept =
    let s = state_of old number refused in
    ap (λ (guard : GuardState). state_of guard (number + 1) refused) kept
    ∙ sym (ap (λ (d : Result Graph Rejection). let after : SessionState = record { text = s.text; schema = s.schema; standing = after_answer s.standing (with_text d) } in after) is)

pub session_rejected : (old : GuardState) (number : ℕ) (refused : Bool) (txn : Txn) (rejection : Rejection) → decision_on (verdict old.schema) old.graph txn ≡ Err rejection
    → (let s = state_of old number refused in record s { standing = after_answer s.standing (with_text (Err rejection)) }) ≡ taken old number refused txn
session_rejected old number refused txn rejection is =
    let s = state_of old number refused in
    sym (ap (λ (d : Result Graph Rejection). let after : SessionState = record { text = s.text; schema = s.schema; standing = after_answer s.standing (with_text d) } in after) is)

-- ---- a line

module _ (s : SessionState) (line : List ℕ) where
  abbrev answer : Result Graph (List ℕ)
  answer = answer_to (verdict s.schema) s.standing.graph line

  -- that has a transaction
  pub tells_txn : (txn : Txn) (pieces : List (List ℕ)) → txn_answer line ≡ Ok txn
      → TellsWith (AreStagedCauses s.text s.schema (staged standard s.standing.graph txn)) s.standing (answer_to_txn (verdict s.schema) s.standing.graph (Ok txn)) pieces
      → TellsWith (AreLineCauses s.text s.schema s.standing.graph line) s.standing answer pieces
  unfolding answer_to AreLineCauses
  tells_txn txn pieces is told =
      subst (λ (found : Result Txn (List ℕ)). TellsWith (AreTxnCauses s.text s.schema s.standing.graph line found) s.standing (answer_to_txn (verdict s.schema) s.standing.graph found) pieces) (sym is)
      (record { texts = told.texts; right = told.right; is = told.is })

  -- and that has none
  pub tells_refused : (refusal : List ℕ) (texts pieces : List (List ℕ)) → txn_answer line ≡ Err refusal → AreReadCauses line texts → pieces ≡ with_causes (λ number. texts) s.standing (Err refusal)
      → TellsWith (AreLineCauses s.text s.schema s.standing.graph line) s.standing answer pieces
  unfolding answer_to AreLineCauses
  tells_refused refusal texts pieces is right told =
      subst (λ (found : Result Txn (List ℕ)). TellsWith (AreTxnCauses s.text s.schema s.standing.graph line found) s.standing (answer_to_txn (verdict s.schema) s.standing.graph found) pieces) (sym is)
      (record { texts = texts; right = right; is = told })

  abbrev after : Result Graph (List ℕ) → SessionState
  after found = record { text = s.text; schema = s.schema; standing = after_answer s.standing found }

  pub session_txn : (txn : Txn) → txn_answer line ≡ Ok txn → after (answer_to_txn (verdict s.schema) s.standing.graph (Ok txn)) ≡ after answer
  unfolding answer_to
  session_txn txn is = sym (ap (λ (found : Result Txn (List ℕ)). after (answer_to_txn (verdict s.schema) s.standing.graph found)) is)

  pub session_refused : (refusal : List ℕ) → txn_answer line ≡ Err refusal → after (Err refusal) ≡ after answer
  unfolding answer_to
  session_refused refusal is = sym (ap (λ (found : Result Txn (List ℕ)). after (answer_to_txn (verdict s.schema) s.standing.graph found)) is)

  -- a blank line tells nothing
  pub tells_blank : is_skipped line ≡ true → TellsLine s line []
  unfolding pieces_of_line
  tells_blank blank = record {
    causes = λ number. [];
    right = λ kept. absurd (true≢false (sym blank ∙ kept));
    is = rw blank refl;
  }

  pub tells_kept : (pieces : List (List ℕ)) → is_skipped line ≡ false → TellsWith (AreLineCauses s.text s.schema s.standing.graph line) s.standing answer pieces → TellsLine s line pieces
  unfolding pieces_of_line
  tells_kept pieces kept told = record {
    causes = λ number. told.texts;
    right = λ is. inl told.right;
    is = rw kept told.is;
  }

  pub session_blank : is_skipped line ≡ true → s ≡ session_after s line
  unfolding standing_after
  session_blank blank = rw blank refl

  pub session_kept : is_skipped line ≡ false → record s { standing = after_answer s.standing answer } ≡ session_after s line
  unfolding standing_after
  session_kept kept = rw kept refl
