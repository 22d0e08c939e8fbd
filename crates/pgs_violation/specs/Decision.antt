-- The decision on a transaction. How a graph is judged, by a schema, is a parameter.
use Rattle.std.specs.Prelude.{List, [], ◌∷◌, Result, Ok, Err, nat_lt, if◌then◌else◌}
use Rattle.pgs_base.specs.declared.limits.Limits.{Limits}
use Rattle.pgs_base.specs.Graph.{Graph, element_count}
use Rattle.pgs_graph.specs.declared.operation.Txn.{Txn}
use Rattle.pgs_violation.specs.declared.structural.Structural.{Structural}
use Rattle.pgs_violation.specs.declared.structural.Structural.TheVariants.{TooManyElements}
use Rattle.pgs_violation.specs.declared.violation.Verdict.{Verdict}
use Rattle.pgs_violation.specs.declared.violation.Verdict.TheVariants.{Conforms, Refused}
use Rattle.pgs_violation.specs.declared.rejection.Rejection.{Rejection}
use Rattle.pgs_violation.specs.declared.rejection.Rejection.TheVariants.{Structural as ByStructure, Violation as ByViolation}
use Rattle.pgs_violation.specs.Staging.{staged}

-- a graph that conforms, or its violation
abbrev pub conforming : Graph → Verdict → Result Graph Rejection
conforming g Conforms = Ok g
conforming g (Refused violation) = Err (ByViolation violation)

-- a graph that is within the limits and conforms, or why it is rejected
abbrev pub judged : Limits → (Graph → Verdict) → Graph → Result Graph Rejection
judged limits verdict g =
    if nat_lt limits.elements (element_count g) then Err (ByStructure (TooManyElements (element_count g)))
    else conforming g (verdict g)

-- what comes of staging: the judgement of the staged graph, or the refusal
abbrev pub judging : Limits → (Graph → Verdict) → Result Graph Structural → Result Graph Rejection
judging limits verdict (Ok g) = judged limits verdict g
judging limits verdict (Err structural) = Err (ByStructure structural)

-- the graph after a transaction that is accepted, or why it is rejected
abbrev pub decide : Limits → (Graph → Verdict) → Graph → Txn → Result Graph Rejection
decide limits verdict g txn = judging limits verdict (staged limits g txn)

-- the graph on which the next transaction is decided: the new one after an accepted transaction, else the same
abbrev pub graph_after : Graph → Result Graph Rejection → Graph
graph_after g (Ok next) = next
graph_after g (Err rejection) = g

-- the decisions on transactions, each on the graph after the accepted ones before it
abbrev pub decisions : Limits → (Graph → Verdict) → Graph → List Txn → List (Result Graph Rejection)
decisions limits verdict g [] = []
decisions limits verdict g (txn ∷ txns) =
    let decision = decide limits verdict g txn in
    decision ∷ decisions limits verdict (graph_after g decision) txns
