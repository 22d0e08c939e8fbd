-- What is told of one element of a saved store.
use Rattle.std.specs.Prelude.{ℕ, Bool, List, [], ◌∷◌, ◌++◌, length, map, filter_map, Option, Some, None, slice_get, option_map, is_some, if◌then◌else◌}
use Rattle.std.specs.List.{flat_map, range_with_len}
use Rattle.pgs_answer.specs.Lines.{absent_line, type_line, key_scope_line, key_value_line}
use Rattle.pgs_base.specs.declared.element.Elem.{Elem}
use Rattle.pgs_base.specs.declared.part.Part.{Part}
use Rattle.pgs_base.specs.Graph.{Graph}
use Rattle.pgs_run_lines.specs.Machine.{Told}
use Rattle.pgs_command.specs.declared.status.Status.{Status}
use Rattle.pgs_command.specs.declared.status.Status.TheVariants.{Accepted, Refused}
use Rattle.pgs_store.specs.Explained.{types_of, key_values_of}
use Rattle.pgs_syntax.specs.declared.element_type.NodeType.{NodeType}
use Rattle.pgs_syntax.specs.declared.element_type.EdgeType.{EdgeType}
use Rattle.pgs_syntax.specs.declared.resolved.Resolved.{Resolved}
use Rattle.pgs_syntax.specs.declared.resolved.TypeNo.{TypeNo}
use Rattle.pgs_syntax.specs.declared.resolved.TypeNo.TheVariants.{Node, Edge}
use Rattle.pgs_syntax.specs.declared.specification.Leaf.{Leaf}
use Rattle.pgs_syntax.specs.Matches.{carried}
use Rattle.pgs_run_store.specs.Refusing.{SavedStore}

-- whether the type of a number is abstract, and its name; a valid schema has each type of its guard
abbrev pub hidden_and_name : Resolved → TypeNo → Option (Bool × List ℕ)
hidden_and_name resolved (Node number) = option_map (λ (type : NodeType Leaf). (type.hidden, type.name)) (slice_get resolved.nodes number)
hidden_and_name resolved (Edge number) = option_map (λ (type : EdgeType Leaf). (type.hidden, type.name)) (slice_get resolved.edges number)

-- the line of a type
abbrev pub line_of_type : Resolved → TypeNo → Option (List ℕ)
line_of_type resolved type = option_map (λ (own : Bool × List ℕ). type_line own.0 own.1) (hidden_and_name resolved type)

-- types, each by its line
abbrev pub type_lines : Resolved → List TypeNo → List (List ℕ)
type_lines resolved types = filter_map (line_of_type resolved) types

-- what is told of a key of a number by an element's values under it, where the element is in the key's scope
abbrev pub key_lines : ℕ → Option (List (List Part)) → List (List ℕ)
key_lines number None = []
key_lines number (Some values) = key_scope_line number ∷ map (key_value_line number) values

-- what is told of some keys of the guard, by their numbers
abbrev pub keys_lines : Resolved → Graph → Elem → List ℕ → List (List ℕ)
keys_lines resolved g elem numbers = flat_map (λ number. key_lines number (key_values_of resolved g number elem)) numbers

-- the numbers of the guard's keys, from 1
abbrev pub key_numbers : Resolved → List ℕ
key_numbers resolved = range_with_len 1 (length resolved.guard.keys)

-- what is told of an element
abbrev pub explained : Resolved → Graph → Elem → Told Status
explained resolved g elem =
    if is_some (carried g elem) then record {
      pieces = type_lines resolved (types_of resolved g elem) ++ keys_lines resolved g elem (key_numbers resolved);
      status = Accepted;
    } else record { pieces = absent_line elem ∷ []; status = Refused }

-- the same, of a saved store
abbrev pub told_element : Elem → SavedStore → Told Status
told_element elem it = explained it.schema it.graph elem
