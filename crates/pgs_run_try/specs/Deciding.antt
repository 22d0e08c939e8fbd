-- What the decision on a transaction leaves.
use Rattle.std.specs.Prelude.{◌≡◌, ℕ, ◌+◌, Result, Ok, IfOk, IfErr, OnOk, OnErr}
use Rattle.pgs_base.specs.Graph.{Graph}
use Rattle.pgs_graph.specs.declared.operation.Txn.{Txn}
use Rattle.pgs_violation.specs.declared.rejection.Rejection.{Rejection}
use Rattle.pgs_decide.specs.declared.refusal.GuardRefusal.{GuardRefusal}
use Rattle.pgs_decide.specs.Refused.{IsRejected}
use Rattle.pgs_run_input.specs.Session.{decision_on}
use Rattle.pgs_run_try.specs.declared.decider.Decider.{Decider}
use Rattle.pgs_run_try.specs.Judging.{verdict_by}
use Rattle.pgs_run_try.specs.State.{judging_in, schema_in, graph_in, commits_in, HasStandardLimits}

-- the decision on a transaction
abbrev pub decision_in : Decider → Txn → Result Graph Rejection
decision_in decider txn = decision_on (verdict_by (judging_in decider) (schema_in decider)) (graph_in decider) txn

-- a transaction was decided, and done where it is accepted
pub record Decides (old : Decider) (txn : Txn) (result : Result ℕ GuardRefusal) (new : Decider) : Type 0 where
  pub number : IfOk result (λ number. number ≡ commits_in old + 1)
  pub accepted : OnOk result (decision_in old txn ≡ Ok (graph_in new))
  pub rejected : IfErr result (IsRejected (decision_in old txn))
  pub judging : judging_in new ≡ judging_in old
  pub schema : schema_in new ≡ schema_in old
  pub limits : HasStandardLimits new
  pub commits : OnOk result (commits_in new ≡ commits_in old + 1)
  pub unchanged : OnErr result ((graph_in new ≡ graph_in old) × (commits_in new ≡ commits_in old))
