-- What a run tells that makes a workload from a number, and decides it.
use Rattle.std.specs.Prelude.{ℕ, ◌==◌, List, [], ◌∷◌, length, Result, if◌then◌else◌}
use Rattle.pgs_answer.specs.Lines.{gen_line}
use Rattle.pgs_base.specs.Graph.{Graph}
use Rattle.pgs_graph.specs.Reads.{in_edges_of}
use Rattle.pgs_run_lines.specs.Machine.{Told}
use Rattle.pgs_violation.specs.declared.rejection.Rejection.{Rejection}
use Rattle.pgs_violation.specs.Violations.{verdict}
use Rattle.pgs_command.specs.declared.status.Status.{Status}
use Rattle.pgs_command.specs.declared.status.Status.TheVariants.{Accepted, Refused}
use Rattle.pgs_run_input.specs.Session.{standard}
use Rattle.pgs_run_gen.specs.Persons.{persons}
use Rattle.pgs_run_gen.specs.Workload.{decided, graph_left, accepted_of, rejected_of}

-- the summary: how many transactions were accepted and rejected, how many nodes and edges the graph has, and how many edges come in
-- at node 1
abbrev pub summary : ℕ → ℕ → Graph → List ℕ
summary accepted rejected g = gen_line accepted rejected (length g.nodes) (length g.edges) (length (in_edges_of g (record { 0 = 1 })))

-- the status of a run in which so many transactions were rejected
abbrev pub status_of : ℕ → Status
status_of rejected = if rejected == 0 then Accepted else Refused

-- what decisions tell
abbrev pub told_of : List (Result Graph Rejection) → Told Status
told_of made = record {
  pieces = summary (accepted_of made) (rejected_of made) (graph_left made) ∷ [];
  status = status_of (rejected_of made);
}

-- what the command tells of a start and a count
unfoldable pub told_gen : ℕ → ℕ → Told Status
told_gen start count = told_of (decided standard (verdict persons) start count)
