-- The dump of a store: its schema's text, the separator, and the lines of its graph, one operation a line.
use Rattle.std.specs.Prelude.{ℕ, List, ◌∷◌}
use Rattle.pgs_answer.specs.Lines.{schema_line, separator_line}
use Rattle.pgs_base.specs.Graph.{Graph}
use Rattle.pgs_dump.specs.Lines.{graph_lines}
use Rattle.pgs_run_lines.specs.Machine.{Told}
use Rattle.pgs_command.specs.declared.status.Status.{Status}
use Rattle.pgs_command.specs.declared.status.Status.TheVariants.{Accepted}
use Rattle.pgs_run_store.specs.Refusing.{SavedStore}

abbrev pub dump : List ℕ → Graph → List (List ℕ)
dump text g = schema_line text ∷ (separator_line ∷ graph_lines g)

-- what is told of a saved store as a text
abbrev pub told_dump : SavedStore → Told Status
told_dump it = record { pieces = dump it.text it.graph; status = Accepted }
