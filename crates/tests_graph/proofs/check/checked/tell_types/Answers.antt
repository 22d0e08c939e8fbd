use Rattle.std.proofs.Common.{ap, ◌∙◌}
use Rattle.pgs_violation.specs.Violations.{conforms}
use Rattle.pgs_check.proofs.Whole.{no_untyped}
use Rattle.tests_graph.proofs.check.checked.tell_types.Goals as goal

pub check_types-untyped-requires-clause-typed : goal.check_types-untyped-requires-clause-typed
check_types-untyped-requires-clause-typed g c =
    no_untyped c.compiled.result.now c.args.tables.now.graph (ap (λ r. conforms r c.args.tables.now.graph) c.compiled.ensures.schema ∙ c.requires.conforms)
