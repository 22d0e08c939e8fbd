use Rattle.tests_graph.specs.Kept.{IsKept}
use Rattle.tests_graph.proofs.check.checked.tally_by.Given as goal

abbrev pub invariant-loop-number : goal.invariant-loop-number
invariant-loop-number g l = IsKept l.schema.resolved l.tables.graph l.index
