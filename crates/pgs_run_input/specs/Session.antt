-- What transaction lines tell, one after another. How a graph is judged, and what is told of an answer, are parameters.
use Rattle.std.specs.Prelude.{ℕ, ◌+◌, Bool, true, List, [], ◌∷◌, ◌++◌, Result, Ok, Err, if◌then◌else◌}
use Rattle.pgs_base.specs.declared.limits.Limits.{Limits}
use Rattle.pgs_base.specs.Graph.{Graph}
use Rattle.pgs_graph.specs.declared.operation.Txn.{Txn}
use Rattle.pgs_violation.specs.declared.rejection.Rejection.{Rejection}
use Rattle.pgs_violation.specs.declared.violation.Verdict.{Verdict}
use Rattle.pgs_violation.specs.Decision.{decide}
use Rattle.pgs_answer.specs.Lines.{committed_line, refused_line}
use Rattle.pgs_answer.specs.Refusals.{rejection_text}
use Rattle.pgs_run_input.specs.Answers.{txn_answer}
use Rattle.pgs_run_input.specs.Input.{is_skipped}

-- where a run stands between two lines
pub record Standing : Type 0 where
  -- how many lines are numbered so far
  pub number : ℕ
  pub commits : ℕ
  -- whether a line was refused
  pub refused : Bool
  pub graph : Graph

-- the limits of the program
abbrev pub standard : Limits
standard = record { ops = 10000; elements = 1000000 }

-- the decision on a transaction, by the verdicts on graphs: the graph after it, or why it is rejected
unfoldable pub decision_on : (Graph → Verdict) → Graph → Txn → Result Graph Rejection
decision_on verdict g txn = decide standard verdict g txn

-- a decision, with the text of a rejection
abbrev pub with_text : Result Graph Rejection → Result Graph (List ℕ)
with_text (Ok g) = Ok g
with_text (Err rejection) = Err (rejection_text rejection standard)

-- the answer to a transaction, or to a refusal: the graph after it, or the text
abbrev pub answer_to_txn : (Graph → Verdict) → Graph → Result Txn (List ℕ) → Result Graph (List ℕ)
answer_to_txn verdict g (Ok txn) = with_text (decision_on verdict g txn)
answer_to_txn verdict g (Err text) = Err text

-- the answer to a line that isn't blank
unfoldable pub answer_to : (Graph → Verdict) → Graph → List ℕ → Result Graph (List ℕ)
answer_to verdict g line = answer_to_txn verdict g (txn_answer line)

-- where the run stands after a refused line
abbrev pub after_refusal : Standing → Standing
after_refusal s = record { number = s.number + 1; commits = s.commits; refused = true; graph = s.graph }

-- where the run stands after an answer
abbrev pub after_answer : Standing → Result Graph (List ℕ) → Standing
after_answer s (Ok g) = record { number = s.number + 1; commits = s.commits + 1; refused = s.refused; graph = g }
after_answer s (Err text) = after_refusal s

-- the verdict line of an answer
abbrev pub verdict_line : Standing → Result Graph (List ℕ) → List ℕ
verdict_line s (Ok g) = committed_line (s.number + 1) (s.commits + 1)
verdict_line s (Err text) = refused_line (s.number + 1) text

-- what is told of an answer to a line
abbrev pub Telling : Type 0
Telling = Standing → Result Graph (List ℕ) → List (List ℕ)

-- its verdict line
abbrev pub every_verdict : Telling
every_verdict s answer = verdict_line s answer ∷ []

-- its verdict line where it is a refusal, and else nothing
abbrev pub refusals_alone : Telling
refusals_alone s (Ok g) = []
refusals_alone s (Err text) = refused_line (s.number + 1) text ∷ []

-- where the run stands after a line: a blank one is skipped and not numbered
unfoldable pub after_line : (Graph → Verdict) → Standing → List ℕ → Standing
after_line verdict s line = if is_skipped line then s else after_answer s (answer_to verdict s.graph line)

-- what a line tells: what is told of its answer, or nothing
unfoldable pub pieces_of_line : Telling → (Graph → Verdict) → Standing → List ℕ → List (List ℕ)
pieces_of_line telling verdict s line = if is_skipped line then [] else telling s (answer_to verdict s.graph line)

-- where the run stands after lines
abbrev pub after_lines : (Graph → Verdict) → Standing → List (List ℕ) → Standing
after_lines verdict s [] = s
after_lines verdict s (line ∷ lines) = after_lines verdict (after_line verdict s line) lines

-- what lines tell
abbrev pub pieces_of_lines : Telling → (Graph → Verdict) → Standing → List (List ℕ) → List (List ℕ)
pieces_of_lines telling verdict s [] = []
pieces_of_lines telling verdict s (line ∷ lines) =
    pieces_of_line telling verdict s line ++ pieces_of_lines telling verdict (after_line verdict s line) lines
