-- Matches of a pattern in a graph: an element for each variable, so that all that the pattern demands holds. Two variables
-- may take the same element.
use Rattle.std.specs.Prelude.{ℕ, Bool, true, false, ◌&&◌, ◌==◌, List, [], ◌∷◌, Option, Some, map, filter, slice_get, option_map, option_and_then}
use Rattle.std.specs.Ordering.{is_eq}
use Rattle.std.specs.Option.{option_map_or}
use Rattle.std.specs.List.{list_any, list_all}
use Rattle.pgs_base.specs.declared.element.NodeId.{NodeId}
use Rattle.pgs_base.specs.declared.element.EdgeId.{EdgeId}
use Rattle.pgs_base.specs.declared.element.Elem.{Elem}
use Rattle.pgs_base.specs.declared.element.Elem.TheVariants.{Node, Edge}
use Rattle.pgs_base.specs.declared.row.NodeRow.{NodeRow}
use Rattle.pgs_base.specs.declared.row.EdgeRow.{EdgeRow}
use Rattle.pgs_base.specs.declared.value.Value.{Value}
use Rattle.pgs_base.specs.Graph.{Graph, node_at, edge_at}
use Rattle.pgs_base.specs.Order.{value_cmp, elem_cmp}
use Rattle.pgs_base.specs.Pair.{has_name, value_at, pair_of}
use Rattle.pgs_syntax.specs.declared.pattern.Atom.{Atom}
use Rattle.pgs_syntax.specs.declared.pattern.Atom.TheVariants.{Ends, HasLabel, FitsNode, FitsEdge, Equals}
use Rattle.pgs_syntax.specs.declared.pattern.Pattern.{Pattern}
use Rattle.pgs_syntax.specs.declared.resolved.Resolved.{Resolved}
use Rattle.pgs_syntax.specs.Join.{each_with_each}
use Rattle.pgs_syntax.specs.Fitting.{fits_node, fits_edge}
use Rattle.pgs_syntax.specs.Typed.{triple_at}

-- whether two elements, and two values, are one
abbrev pub same_elem : Elem → Elem → Bool
same_elem a b = is_eq (elem_cmp a b)

abbrev pub same_value : Value → Value → Bool
same_value a b = is_eq (value_cmp a b)

-- the pair that an element carries, where it is there
abbrev pub carried : Graph → Elem → Option NodeRow
carried g (Node id) = node_at g id
carried g (Edge id) = option_map (λ (row : EdgeRow). pair_of row.labels row.props) (edge_at g id)

-- whether an element is a node that fits the node type of a number, and an edge that fits the edge type
abbrev pub is_node_of_type : Resolved → Graph → ℕ → Elem → Bool
is_node_of_type resolved g number (Node id) = option_map_or (fits_node resolved number) (node_at g id) false
is_node_of_type resolved g number (Edge id) = false

abbrev pub is_edge_of_type : Resolved → Graph → ℕ → Elem → Bool
is_edge_of_type resolved g number (Node id) = false
is_edge_of_type resolved g number (Edge id) =
    option_map_or (fits_edge resolved number) (option_and_then (triple_at g) (edge_at g id)) false

-- whether the first is an edge that leads from the second to the third
abbrev pub leads : Graph → Option Elem → Option Elem → Option Elem → Bool
leads g (Some (Edge edge)) (Some (Node source)) (Some (Node target)) =
    option_map_or (λ (row : EdgeRow). row.source.0 == source.0 && row.target.0 == target.0) (edge_at g edge) false
leads g _ _ _ = false

-- whether the element of a variable is there and its pair passes a test
abbrev pub carries : Graph → List Elem → ℕ → (NodeRow → Bool) → Bool
carries g elems var test = option_map_or test (option_and_then (carried g) (slice_get elems var)) false

-- whether an atom holds, where the variables have these elements
abbrev pub holds : Resolved → Graph → List Elem → Atom → Bool
holds resolved g elems (Ends edge source target) =
    leads g (slice_get elems edge) (slice_get elems source) (slice_get elems target)
holds resolved g elems (HasLabel var label) = carries g elems var (λ own. has_name label own.labels)
holds resolved g elems (FitsNode var number) =
    option_map_or (is_node_of_type resolved g number) (slice_get elems var) false
holds resolved g elems (FitsEdge var number) =
    option_map_or (is_edge_of_type resolved g number) (slice_get elems var) false
holds resolved g elems (Equals var key value) =
    carries g elems var (λ own. option_map_or (same_value value) (value_at key own.props) false)

-- the edges of a graph, or its nodes
abbrev pub elements : Graph → Bool → List Elem
elements g true = map (λ (edge : EdgeId × EdgeRow). Edge edge.0) g.edges
elements g false = map (λ (node : NodeId × NodeRow). Node node.0) g.nodes

-- all ways to give each variable an element of its kind
abbrev pub assignments : Graph → List Bool → List (List Elem)
assignments g [] = [] ∷ []
assignments g (is_edge ∷ edge_vars) =
    each_with_each (λ elem elems. elem ∷ elems) (elements g is_edge) (assignments g edge_vars)

-- whether each variable has an element of the graph, of its kind
abbrev pub are_there : Graph → List Bool → List Elem → Bool
are_there g [] [] = true
are_there g (is_edge ∷ edge_vars) (elem ∷ elems) = list_any (same_elem elem) (elements g is_edge) && are_there g edge_vars elems
are_there g _ _ = false

-- whether elements are a match of a pattern
abbrev pub is_match : Resolved → Graph → Pattern → List Elem → Bool
is_match resolved g pattern elems =
    are_there g pattern.edge_vars elems && list_all (holds resolved g elems) pattern.atoms

-- the matches of a pattern
abbrev pub matches : Resolved → Graph → Pattern → List (List Elem)
matches resolved g pattern =
    filter (λ elems. list_all (holds resolved g elems) pattern.atoms) (assignments g pattern.edge_vars)
