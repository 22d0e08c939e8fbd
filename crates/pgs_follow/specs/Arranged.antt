-- Feeds whose lines are those of commits that were accepted in order: each line as often as one likes, in whatever order.
use Rattle.std.specs.Prelude.{◌≡◌, ℕ, ◌+◌, ◌^◌, ◌<◌, ◌≤◌, true, List, [], ◌∷◌, length, take, Option, Some, None, Result, Ok, slice_get}
use Rattle.std.specs.List.{list_all}
use Rattle.pgs_base.specs.declared.limits.Limits.{Limits}
use Rattle.pgs_base.specs.Graph.{Graph, empty_graph}
use Rattle.pgs_graph.specs.declared.operation.Txn.{Txn}
use Rattle.pgs_graph.specs.Operations.{is_well_formed_txn}
use Rattle.pgs_violation.specs.declared.rejection.Rejection.{Rejection}
use Rattle.pgs_violation.specs.declared.violation.Verdict.{Verdict}
use Rattle.pgs_violation.specs.Decision.{decide}
use Rattle.pgs_violation.specs.Staging.{◌>>=◌}
use Rattle.pgs_json.specs.declared.commit.TheConstants.{COMMIT_LIMIT}
use Rattle.pgs_json.specs.Canonical.{text_of_txn}
use Rattle.pgs_run_lines.specs.Input.{lines_of}
use Rattle.pgs_follow.specs.declared.fault.FollowFault.{FollowFault}
use Rattle.pgs_follow.specs.declared.fault.FollowFault.TheVariants.{LineTooLong, BadLine, Gap, BadCommit}
use Rattle.pgs_follow.specs.Followed.{followed}

-- the graph after transactions that are decided in order from this graph on, or why the first is rejected that is
abbrev pub after_all : Limits → (Graph → Verdict) → Graph → List Txn → Result Graph Rejection
after_all limits verdict g [] = Ok g
after_all limits verdict g (txn ∷ txns) = decide limits verdict g txn >>= λ next. after_all limits verdict next txns

-- transactions that were all accepted, in order, from the empty graph on
pub record IsHistory (limits : Limits) (verdict : Graph → Verdict) (txns : List Txn) : Type 0 where
  pub last : Graph
  pub accepted : after_all limits verdict empty_graph txns ≡ Ok last
  pub well_formed : list_all is_well_formed_txn txns ≡ true
  pub few : length txns < 2 ^ 64

-- the line of one of their commits, which are numbered from 1
pub record IsFeedLine (txns : List Txn) (line : List ℕ) : Type 0 where
  pub place : ℕ
  pub txn : Txn
  pub there : slice_get txns place ≡ Some txn
  pub text : line ≡ text_of_txn txn (Some (place + 1))
  pub short : length line ≤ COMMIT_LIMIT

abbrev pub AreFeedLines : List Txn → List (List ℕ) → Type 0
AreFeedLines txns [] = Unit {0}
AreFeedLines txns (line ∷ lines) = IsFeedLine txns line × AreFeedLines txns lines

-- no fault but a gap, or that the unfinished line is too long
abbrev pub IsGapOrLongRest : List ℕ → Option FollowFault → Type 0
IsGapOrLongRest bytes None = Unit {0}
IsGapOrLongRest bytes (Some (Gap expected found)) = Unit {0}
IsGapOrLongRest bytes (Some (LineTooLong line)) = COMMIT_LIMIT < length (lines_of bytes).rest
IsGapOrLongRest bytes (Some (BadLine line)) = ⊥
IsGapOrLongRest bytes (Some (BadCommit commit cause)) = ⊥

-- what is followed of the bytes is the graph after some first ones of the transactions
pub record FollowsFirst (limits : Limits) (verdict : Graph → Verdict) (txns : List Txn) (bytes : List ℕ) : Type 0 where
  pub within : (followed limits bytes).commits ≤ length txns
  pub graph : after_all limits verdict empty_graph (take (followed limits bytes).commits txns) ≡ Ok (followed limits bytes).graph
  pub fault : IsGapOrLongRest bytes (followed limits bytes).fault
