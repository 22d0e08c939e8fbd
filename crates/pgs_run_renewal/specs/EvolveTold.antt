-- What the command `evolve` tells of an input within a budget and of two areas: at most one piece, and a status.
use Rattle.std.specs.Prelude.{ℕ, List, [], ◌∷◌, length, Option, Some, None, nat_le, if◌then◌else◌}
use Rattle.pgs_base.specs.Graph.{Graph}
use Rattle.pgs_answer.specs.Lines.{evolve_refused_line, evolved_line}
use Rattle.pgs_answer.specs.Refusals.{old_format_text, violation_text}
use Rattle.pgs_run_lines.specs.Machine.{Told}
use Rattle.pgs_command.specs.declared.status.Status.{Status}
use Rattle.pgs_command.specs.declared.status.Status.TheVariants.{Accepted, Refused, InputTooLong}
use Rattle.pgs_run_input.specs.Answers.{schema_answer}
use Rattle.pgs_command.specs.Areas.{Areas}
use Rattle.pgs_run_store.specs.Refusing.{SavedStore, store_refused, told_of_areas, told_under}
use Rattle.pgs_snapshot.specs.Choice.{chosen_next}
use Rattle.pgs_syntax.specs.declared.resolved.Resolved.{Resolved}
use Rattle.pgs_violation.specs.declared.violation.Verdict.{Verdict}
use Rattle.pgs_violation.specs.declared.violation.Verdict.TheVariants.{Conforms, Refused as Violated}
use Rattle.pgs_violation.specs.Violations.{verdict}

-- the line of a schema that is in force: how many types and keys its guard has
abbrev pub line_of : Resolved → List ℕ
line_of schema = evolved_line (length schema.guard.types) (length schema.guard.keys)

-- what is told of the verdict on the graph under a schema
abbrev pub told_verdict : Resolved → Verdict → Told Status
told_verdict schema Conforms = record { pieces = line_of schema ∷ []; status = Accepted }
told_verdict schema (Violated violation) = record { pieces = evolve_refused_line (violation_text violation) ∷ []; status = Refused }

-- what is told of a text, by the graph that is saved
abbrev pub told_text : List ℕ → Graph → Told Status
told_text text graph = told_under (schema_answer text) (λ schema. told_verdict schema (verdict schema graph))

-- the same over a store with this next number; a store of the first format has none, and no later schemas
abbrev pub told_new : Option ℕ → List ℕ → Graph → Told Status
told_new None text graph = store_refused old_format_text
told_new (Some number) text graph = told_text text graph

-- the whole input is the text; where it is cut nothing of it is judged
abbrev pub told_input : List ℕ → ℕ → Option ℕ → Graph → Told Status
told_input input budget next graph =
    if nat_le budget (length input) then record { pieces = []; status = InputTooLong } else told_new next input graph

-- the areas are judged first, and then the input
unfoldable pub told_evolve : List ℕ → Areas → ℕ → Told Status
told_evolve input areas budget = told_of_areas areas (λ (it : SavedStore). told_input input budget (chosen_next areas.a areas.b) it.graph)
