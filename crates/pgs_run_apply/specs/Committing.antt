-- The transactions that lines commit, as feeds get them.
use Rattle.std.specs.Prelude.{◌≡◌, ℕ, ◌+◌, Option, Some, None, List, [], ◌∷◌, ◌++◌, length, Result, Ok, Err, if◌then◌else◌}
use Rattle.pgs_base.specs.Graph.{Graph}
use Rattle.pgs_feed.specs.Deliveries.{Delivery, behind, lines_in}
use Rattle.pgs_feed.specs.Places.{Place, fed_count}
use Rattle.pgs_graph.specs.declared.operation.Txn.{Txn}
use Rattle.pgs_violation.specs.declared.rejection.Rejection.{Rejection}
use Rattle.pgs_violation.specs.declared.violation.Verdict.{Verdict}
use Rattle.pgs_answer.specs.Lines.{feed_line}
use Rattle.pgs_run_input.specs.Answers.{txn_answer}
use Rattle.pgs_run_input.specs.Input.{is_skipped}
use Rattle.pgs_run_input.specs.Session.{Standing, decision_on, after_line, every_verdict, pieces_of_line}

-- the feeds' line of a transaction that is accepted, before its verdict line
abbrev pub deliveries_of : Standing → Txn → Result Graph Rejection → List Delivery
deliveries_of s txn (Ok g) = (record { line = feed_line txn (s.commits + 1); puts = 0 }) ∷ []
deliveries_of s txn (Err rejection) = []

abbrev pub deliveries_of_answer : (Graph → Verdict) → Standing → Result Txn (List ℕ) → List Delivery
deliveries_of_answer verdict s (Ok txn) = deliveries_of s txn (decision_on verdict s.graph txn)
deliveries_of_answer verdict s (Err text) = []

-- what a line gives to feeds
unfoldable pub deliveries_at : (Graph → Verdict) → Standing → List ℕ → List Delivery
deliveries_at verdict s line = if is_skipped line then [] else deliveries_of_answer verdict s (txn_answer line)

-- What lines give to feeds: one line for each transaction that is accepted, in order, behind the pieces that the lines before it tell, and
-- before its own verdict line.
abbrev pub deliveries : (Graph → Verdict) → Standing → List (List ℕ) → List Delivery
deliveries verdict s [] = []
deliveries verdict s (line ∷ lines) =
    deliveries_at verdict s line
    ++ behind (length (pieces_of_line every_verdict verdict s line)) (deliveries verdict (after_line verdict s line) lines)

-- these lines
abbrev pub feed_lines : (Graph → Verdict) → Standing → List (List ℕ) → List (List ℕ)
feed_lines verdict s lines = lines_in (deliveries verdict s lines)

-- the feed line that is made for feeds: none where no feed is there that hasn't failed
abbrev pub IsLineFor : List Place → (line : List ℕ) → Option (List ℕ) → Type 0
IsLineFor places line None = fed_count places ≡ 0
IsLineFor places line (Some made) = made ≡ line
