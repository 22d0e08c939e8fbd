-- What comes of a generated workload: the decisions on its transactions, and what they leave.
use Rattle.std.specs.Prelude.{ℕ, not, List, map, count_by, fold, Result}
use Rattle.std.specs.List.{range_with_len}
use Rattle.std.specs.Result.{is_ok}
use Rattle.pgs_base.specs.declared.limits.Limits.{Limits}
use Rattle.pgs_base.specs.Graph.{Graph, empty_graph}
use Rattle.pgs_gen.specs.Generated.{generated}
use Rattle.pgs_graph.specs.declared.operation.Txn.{Txn}
use Rattle.pgs_violation.specs.declared.rejection.Rejection.{Rejection}
use Rattle.pgs_violation.specs.declared.violation.Verdict.{Verdict}
use Rattle.pgs_violation.specs.Decision.{decisions, graph_after}

-- the transactions of a start, with the numbers from 1 to a count
abbrev pub workload : ℕ → ℕ → List Txn
workload start count = map (generated start) (range_with_len 1 count)

-- the decisions on them, from the empty graph on
unfoldable pub decided : Limits → (Graph → Verdict) → ℕ → ℕ → List (Result Graph Rejection)
decided limits verdict start count = decisions limits verdict empty_graph (workload start count)

-- the graph that decisions leave
abbrev pub graph_left : List (Result Graph Rejection) → Graph
graph_left made = fold graph_after empty_graph made

-- how many of them accept, and how many reject
abbrev pub accepted_of : List (Result Graph Rejection) → ℕ
accepted_of made = count_by is_ok made

abbrev pub rejected_of : List (Result Graph Rejection) → ℕ
rejected_of made = count_by (λ decision. not (is_ok decision)) made
