-- What the two ways of judging do: with each transaction, in what each line tells, and in what is listed at the end.
use Rattle.std.specs.Prelude.{List, []}
use Rattle.pgs_base.specs.Graph.{Graph}
use Rattle.pgs_syntax.specs.declared.resolved.Resolved.{Resolved}
use Rattle.pgs_violation.specs.declared.violation.Verdict.{Verdict}
use Rattle.pgs_violation.specs.declared.violation.Verdict.TheVariants.{Conforms}
use Rattle.pgs_violation.specs.declared.violation.Violation.{Violation}
use Rattle.pgs_violation.specs.Violations.{verdict, violations}
use Rattle.pgs_run_input.specs.Session.{Telling, every_verdict, refusals_alone}
use Rattle.pgs_run_try.specs.declared.judging.Judging.{Judging}
use Rattle.pgs_run_try.specs.declared.judging.Judging.TheVariants.{EachLine, AtEnd}

-- every graph is taken
abbrev pub judges_nothing : Graph → Verdict
judges_nothing g = Conforms

-- the verdict on the graph of a transaction
unfoldable pub verdict_by : Judging → Resolved → Graph → Verdict
verdict_by EachLine schema = verdict schema
verdict_by AtEnd schema = judges_nothing

-- what is told of the answer to a line
unfoldable pub telling_by : Judging → Telling
telling_by EachLine = every_verdict
telling_by AtEnd = refusals_alone

-- the violations that are listed at the end of a whole input
unfoldable pub listed : Judging → Resolved → Graph → List Violation
listed EachLine schema g = []
listed AtEnd schema g = violations schema g
