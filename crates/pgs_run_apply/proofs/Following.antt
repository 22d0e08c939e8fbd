-- The outcomes of lines, one after another: what they change, what they tell, and that fronts of lines come to the same.
use Rattle.std.proofs.Common.{◌≡◌, ◌∙◌, ℕ, ◌+◌, ◌≤◌, ◌<◌, Bool, true, false, nat_le, nat_lt, cond, List, [], ◌∷◌, ◌++◌, length, map, Result, Ok, Err, refl, sym, ap, ap₂, subst, arith}
use Rattle.std.proofs.lemmas.Bool.Decides.{nat_tests}
use Rattle.std.proofs.lemmas.List.{append-nil}
use Rattle.pgs_base.specs.Graph.{Graph}
use Rattle.pgs_graph.specs.declared.operation.Txn.{Txn}
use Rattle.pgs_answer.specs.Refusals.{line_too_long_text}
use Rattle.pgs_feed.specs.Deliveries.{Delivery, behind}
use Rattle.pgs_run_lines.specs.Input.{is_blank}
use Rattle.pgs_run_lines.specs.Machine as machine
use Rattle.pgs_run_lines.specs.Machine.{Going}
use Rattle.pgs_run_lines.proofs.Fronts.{same_of_front}
use Rattle.pgs_violation.specs.declared.rejection.Rejection.{Rejection}
use Rattle.pgs_violation.specs.declared.violation.Verdict.{Verdict}
use Rattle.pgs_violation.specs.Violations.{verdict}
use Rattle.pgs_run_input.specs.Answers.{txn_answer}
use Rattle.pgs_run_input.specs.Input.{text_limit, text_front, is_skipped}
use Rattle.pgs_run_input.specs.Session.{Standing, decision_on, with_text, answer_to_txn, answer_to, after_answer, after_line, after_lines, every_verdict, pieces_of_line, pieces_of_lines}
use Rattle.pgs_run_apply.specs.Applying.{applying}
use Rattle.pgs_run_apply.specs.Committing.{deliveries_of, deliveries_of_answer, deliveries_at, deliveries}
use Rattle.pgs_run_apply.specs.Outcome.{Outcome, skipping, refusing, deciding, answering, outcome_of, and_then, outcome_of_all}
use Rattle.pgs_run_apply.specs.State.{ApplyState, standing_of}

-- ---- one outcome after another

abbrev outcome_with : ApplyState → List (List ℕ) → List Delivery → Outcome
outcome_with s pieces given = record { state = s; pieces = pieces; given = given }

pub outcome_one : (s : ApplyState) (line : List ℕ) → outcome_of_all s (line ∷ []) ≡ outcome_of s line
outcome_one s line = let o = outcome_of s line in ap₂ (outcome_with o.state) (append-nil o.pieces) (append-nil o.given)

-- what lines tell the machine
pub tells : (s : ApplyState) (lines : List (List ℕ)) → machine.pieces_of_lines applying (Going s) lines ≡ (outcome_of_all s lines).pieces
tells s [] = refl
tells s (line ∷ lines) = let o = outcome_of s line in ap (λ pieces. o.pieces ++ pieces) (tells o.state lines)

-- ---- a line by what it is

pub blank_outcome : (s : ApplyState) (line : List ℕ) → is_skipped line ≡ true → outcome_of s line ≡ skipping s
unfolding outcome_of
blank_outcome s line is = rw is refl

pub line_outcome : (s : ApplyState) (line : List ℕ) (answer : Result Txn (List ℕ)) → is_skipped line ≡ false → answer ≡ txn_answer line → outcome_of s line ≡ answering s answer
unfolding outcome_of
line_outcome s line answer is says = rw is (ap (answering s) (sym says))

-- ---- a front

is_long : (n : ℕ) → text_limit < n → (nat_lt text_limit n ≡ true) × (nat_le n text_limit ≡ false)
is_long n long = (grind (arith, nat_tests), grind (arith, nat_tests))

long_blank : (line : List ℕ) → text_limit < length line → is_skipped line ≡ false
unfolding is_blank
long_blank line long = rw (is_long (length line) long).1 refl

long_txn : (line : List ℕ) → text_limit < length line → txn_answer line ≡ Err line_too_long_text
unfolding txn_answer
long_txn line long = rw (is_long (length line) long).0 refl

-- a line that is too long is refused
long_outcome : (s : ApplyState) (line : List ℕ) → text_limit < length line → outcome_of s line ≡ refusing s line_too_long_text
long_outcome s line long = line_outcome s line (Err line_too_long_text) (long_blank line long) (sym (long_txn line long))

-- so a line and its front come to the same
pub outcome_front : (s : ApplyState) (line : List ℕ) → outcome_of s (text_front line) ≡ outcome_of s line
outcome_front s line = same_of_front text_limit (outcome_of s) (refusing s line_too_long_text) line (long_outcome s)

pub outcome_fronts : (s : ApplyState) (lines : List (List ℕ)) → outcome_of_all s (map text_front lines) ≡ outcome_of_all s lines
outcome_fronts s [] = refl
outcome_fronts s (line ∷ lines) =
    ap (λ (o : Outcome). and_then o (outcome_of_all o.state (map text_front lines))) (outcome_front s line)
    ∙ ap (and_then (outcome_of s line)) (outcome_fronts (outcome_of s line).state lines)

-- ---- what an outcome changes and tells, by where the run stands without the store's own

pub record Follows (s : ApplyState) (o : Outcome) (at : Standing) (told : List (List ℕ)) (fed : List Delivery) : Type 0 where
  pub text : o.state.guard.text ≡ s.guard.text
  pub schema : o.state.guard.schema ≡ s.guard.schema
  pub limits : o.state.guard.limits ≡ s.guard.limits
  pub area : o.state.journal.area ≡ s.journal.area
  pub epoch : o.state.journal.epoch ≡ s.journal.epoch
  pub standing : standing_of o.state ≡ at
  pub pieces : o.pieces ≡ told
  pub given : o.given ≡ fed

follows_decision : (s : ApplyState) (txn : Txn) (decision : Result Graph Rejection)
    → Follows s (deciding s txn decision) (after_answer (standing_of s) (with_text decision)) (every_verdict (standing_of s) (with_text decision)) (deliveries_of (standing_of s) txn decision)
follows_decision s txn (Ok g) = record { text = refl; schema = refl; limits = refl; area = refl; epoch = refl; standing = refl; pieces = refl; given = refl }
follows_decision s txn (Err rejection) = record { text = refl; schema = refl; limits = refl; area = refl; epoch = refl; standing = refl; pieces = refl; given = refl }

follows_if : (s : ApplyState) (answer : Result Txn (List ℕ)) (blank : Bool)
    → (let judge = verdict s.guard.schema in
    let at = standing_of s in
    let said = answer_to_txn judge s.guard.graph answer in
    Follows s (cond blank (skipping s) (answering s answer)) (cond blank at (after_answer at said)) (cond blank [] (every_verdict at said)) (cond blank [] (deliveries_of_answer judge at answer)))
follows_if s answer true = record { text = refl; schema = refl; limits = refl; area = refl; epoch = refl; standing = refl; pieces = refl; given = refl }
follows_if s (Ok txn) false = follows_decision s txn (decision_on (verdict s.guard.schema) s.guard.graph txn)
follows_if s (Err text) false = record { text = refl; schema = refl; limits = refl; area = refl; epoch = refl; standing = refl; pieces = refl; given = refl }

follows_line : (s : ApplyState) (line : List ℕ)
    → (let judge = verdict s.guard.schema in
    let at = standing_of s in
    Follows s (outcome_of s line) (after_line judge at line) (pieces_of_line every_verdict judge at line) (deliveries_at judge at line))
unfolding outcome_of after_line pieces_of_line deliveries_at answer_to
follows_line s line = follows_if s (txn_answer line) (is_skipped line)

follows_on : (s : ApplyState) (o p : Outcome) (at next : Standing) (told more : List (List ℕ)) (fed lines : List Delivery) → Follows s o at told fed → Follows o.state p next more lines
    → Follows s (and_then o p) next (told ++ more) (fed ++ behind (length told) lines)
follows_on s o p at next told more fed lines f g = record {
  text = g.text ∙ f.text;
  schema = g.schema ∙ f.schema;
  limits = g.limits ∙ f.limits;
  area = g.area ∙ f.area;
  epoch = g.epoch ∙ f.epoch;
  standing = g.standing;
  pieces = ap₂ (λ (xs ys : List (List ℕ)). xs ++ ys) f.pieces g.pieces;
  given = ap₂ (λ (xs ys : List Delivery). xs ++ ys) f.given (ap₂ (λ (pieces : List (List ℕ)) (ys : List Delivery). behind (length pieces) ys) f.pieces g.given);
}

module _ (judge : Graph → Verdict) where
  pub follows_at : (at : Standing) (s : ApplyState) (line : List ℕ) → verdict s.guard.schema ≡ judge → standing_of s ≡ at → Follows s (outcome_of s line) (after_line judge at line) (pieces_of_line every_verdict judge at line) (deliveries_at judge at line)
  follows_at at s line judges stands =
      subst (λ (t : Standing). Follows s (outcome_of s line) (after_line judge t line) (pieces_of_line every_verdict judge t line) (deliveries_at judge t line)) stands
      (subst (λ (v : Graph → Verdict). Follows s (outcome_of s line) (after_line v (standing_of s) line) (pieces_of_line every_verdict v (standing_of s) line) (deliveries_at v (standing_of s) line)) judges (follows_line s line))

  pub follows_lines : (at : Standing) (s : ApplyState) (lines : List (List ℕ)) → verdict s.guard.schema ≡ judge → standing_of s ≡ at → Follows s (outcome_of_all s lines) (after_lines judge at lines) (pieces_of_lines every_verdict judge at lines) (deliveries judge at lines)
  follows_lines at s [] judges stands = record { text = refl; schema = refl; limits = refl; area = refl; epoch = refl; standing = stands; pieces = refl; given = refl }
  follows_lines at s (line ∷ lines) judges stands =
      let o = outcome_of s line in
      let next = after_line judge at line in
      let first = follows_at at s line judges stands in
      follows_on s o (outcome_of_all o.state lines) next (after_lines judge next lines) (pieces_of_line every_verdict judge at line) (pieces_of_lines every_verdict judge next lines) (deliveries_at judge at line) (deliveries judge next lines) first
      (follows_lines next o.state lines (ap verdict first.schema ∙ judges) first.standing)

-- ---- a line is counted once at most

numbered : (s : Standing) (answer : Result Graph (List ℕ)) (blank : Bool) → (cond blank s (after_answer s answer)).number ≤ s.number + 1
numbered s answer true = omega arith
numbered s (Ok g) false = omega arith
numbered s (Err text) false = omega arith

pub counted : (s : ApplyState) (line : List ℕ) → (outcome_of s line).state.number ≤ s.number + 1
unfolding after_line
counted s line =
    let at = standing_of s in
    let is = ap (λ (t : Standing). t.number) (follows_line s line).standing in
    let few = numbered at (answer_to (verdict s.guard.schema) at.graph line) (is_skipped line) in
    omega (arith, is, few)
