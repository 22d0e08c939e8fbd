-- What the command `load` tells of an input within a budget and of two areas: one piece, and a status.
use Rattle.std.specs.Prelude.{ℕ, List, [], ◌∷◌, length, nat_le, if◌then◌else◌}
use Rattle.pgs_run_lines.specs.Machine.{Told}
use Rattle.pgs_syntax.specs.declared.resolved.Resolved.{Resolved}
use Rattle.pgs_answer.specs.Lines.{loaded_line}
use Rattle.pgs_answer.specs.Refusals.{already_store_text, foreign_text}
use Rattle.pgs_command.specs.declared.status.Status.{Status}
use Rattle.pgs_command.specs.declared.status.Status.TheVariants.{Accepted, InputTooLong}
use Rattle.pgs_run_input.specs.Answers.{schema_answer}
use Rattle.pgs_command.specs.Areas.{Areas}
use Rattle.pgs_run_store.specs.Refusing.{store_refused, told_under}
use Rattle.pgs_snapshot.specs.Choice.{Choice, choice_of}
use Rattle.pgs_snapshot.specs.Choice as choices

-- the line of a schema that was loaded: how many types and keys its guard has
abbrev pub line_of : Resolved → List ℕ
line_of schema = loaded_line (length schema.guard.types) (length schema.guard.keys)

-- what two areas tell where this schema is to be loaded: a store is left alone, and so is another program's file
abbrev pub told_choice : Resolved → Choice → Told Status
told_choice schema (choices.chosen area epoch end next payloads) = store_refused already_store_text
told_choice schema (choices.damaged area epoch number) = store_refused already_store_text
told_choice schema choices.foreign = store_refused foreign_text
told_choice schema choices.no_store = record { pieces = line_of schema ∷ []; status = Accepted }

-- the text is judged first, and then the two areas
abbrev pub told_text : List ℕ → Areas → Told Status
told_text text areas = told_under (schema_answer text) (λ schema. told_choice schema (choice_of areas.a areas.b))

-- the whole input is the text; where it is cut nothing is judged
unfoldable pub told_load : List ℕ → Areas → ℕ → Told Status
told_load input areas budget = if nat_le budget (length input) then record { pieces = []; status = InputTooLong } else told_text input areas
