-- What a graph says of one element under a schema: the types of the guard that it fits, and its values under a key.
use Rattle.std.specs.Prelude.{ℕ, ◌-◌, Bool, List, Option, filter, slice_get, option_and_then}
use Rattle.pgs_base.specs.declared.element.Elem.{Elem}
use Rattle.pgs_base.specs.declared.part.Part.{Part}
use Rattle.pgs_base.specs.Graph.{Graph}
use Rattle.pgs_keyindex.specs.Standing.{values_in_scope}
use Rattle.pgs_syntax.specs.declared.resolved.Resolved.{Resolved}
use Rattle.pgs_syntax.specs.declared.resolved.TypeNo.{TypeNo}
use Rattle.pgs_syntax.specs.declared.resolved.TypeNo.TheVariants.{Node, Edge}
use Rattle.pgs_syntax.specs.Matches.{is_node_of_type, is_edge_of_type}

-- whether an element is in the graph and fits a type
abbrev pub fits_type : Resolved → Graph → Elem → TypeNo → Bool
fits_type resolved g elem (Node number) = is_node_of_type resolved g number elem
fits_type resolved g elem (Edge number) = is_edge_of_type resolved g number elem

-- the types of the guard that an element fits, abstract ones too, in the guard's order
abbrev pub types_of : Resolved → Graph → Elem → List TypeNo
types_of resolved g elem = filter (fits_type resolved g elem) resolved.guard.types

-- the key values of an element that is in the scope of the guard's key of a number, from 1
abbrev pub key_values_of : Resolved → Graph → ℕ → Elem → Option (List (List Part))
key_values_of resolved g number elem =
    option_and_then (λ key. values_in_scope resolved g key elem) (slice_get resolved.guard.keys (number - 1))
