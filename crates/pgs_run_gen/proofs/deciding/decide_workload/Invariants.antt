use Rattle.std.proofs.Common.{◌≡◌}
use Rattle.pgs_violation.specs.Violations.{verdict}
use Rattle.pgs_run_gen.specs.Workload.{decided, graph_left, accepted_of, rejected_of}
use Rattle.pgs_run_gen.proofs.deciding.decide_workload.Given as goal

abbrev pub invariant-loop-made : goal.invariant-loop-made
invariant-loop-made g l = record {
  limits : l.guard.limits ≡ l.fn.guard.limits;
  schema : l.guard.schema ≡ l.fn.guard.schema;
  graph : l.guard.graph ≡ graph_left (decided l.fn.guard.limits (verdict l.fn.guard.schema) l.start l.made);
  accepted : l.guard.commits ≡ accepted_of (decided l.fn.guard.limits (verdict l.fn.guard.schema) l.start l.made);
  rejected : l.rejected ≡ rejected_of (decided l.fn.guard.limits (verdict l.fn.guard.schema) l.start l.made);
}
