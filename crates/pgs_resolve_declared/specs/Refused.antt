-- The names for which a script is refused, each list in the order of the tree: names declared twice, names that aren't
-- declared, names of the wrong kind. And the names on cycles.
use Rattle.std.specs.Prelude.{ℕ, zero, suc, Bool, true, false, not, ◌||◌, List, [], ◌∷◌, ◌++◌, length, Option, Some, None, map, filter, flat_map, if◌then◌else◌}
use Rattle.std.specs.List.{list_any}
use Rattle.std.specs.Option.{option_map_or}
use Rattle.std.specs.Ordering.{nat_cmp, is_lt}
use Rattle.std.specs.Cmp.Lexicographic.{slice_cmp}
use Rattle.pgs_syntax.specs.declared.element_type.NodeType.{NodeType}
use Rattle.pgs_syntax.specs.declared.element_type.EdgeType.{EdgeType}
use Rattle.pgs_syntax.specs.declared.raw.RawKey.{RawKey}
use Rattle.pgs_syntax.specs.declared.raw.RawPath.{RawPath}
use Rattle.pgs_syntax.specs.declared.raw.RawStep.{RawStep}
use Rattle.pgs_syntax.specs.declared.script.GraphType.{GraphType}
use Rattle.pgs_syntax.specs.declared.script.Member.{Member}
use Rattle.pgs_syntax.specs.declared.script.Member.TheVariants as members
use Rattle.pgs_syntax.specs.declared.script.Script.{Script}
use Rattle.pgs_syntax.specs.declared.script.Statement.{Statement}
use Rattle.pgs_syntax.specs.declared.script.Statement.TheVariants.{Node, Edge, Graph}
use Rattle.pgs_syntax.specs.declared.specification.Spec.{Spec}
use Rattle.pgs_base.specs.Pair.{same_name, has_name}
use Rattle.pgs_resolve_declared.specs.declared.duplicates.Mark.{Mark}
use Rattle.pgs_resolve_declared.specs.declared.duplicates.Mark.TheVariants as marks
use Rattle.pgs_resolve_declared.specs.declared.kinds.Use.{Use}
use Rattle.pgs_resolve_declared.specs.Declarations.{words_of, braces_of, graphs_of, nodes_of, edges_of, node_named, edge_named, graph_named, is_node_type, is_edge_type, is_graph_type}

-- ---- declared twice

-- the names of a list that stand in it before
abbrev pub repeated_after : List (List ℕ) → List (List ℕ) → List (List ℕ)
repeated_after earlier [] = []
repeated_after earlier (name ∷ names) =
    (if has_name name earlier then name ∷ [] else []) ++ repeated_after (name ∷ earlier) names

-- the places of the tree that can be a second one: each of an element type or a graph type, and those of properties that their
-- braces have before
abbrev pub marked : Mark → List ℕ
marked (marks.Element name) = name
marked (marks.Graph name) = name
marked (marks.Again name) = name

-- the element type, and the graph type, that is marked
abbrev pub element_in : Mark → Option (List ℕ)
element_in (marks.Element name) = Some name
element_in _ = None

abbrev pub graph_in : Mark → Option (List ℕ)
graph_in (marks.Graph name) = Some name
graph_in _ = None

abbrev pub marks_in : Spec (List ℕ) → List Mark
marks_in spec = map marks.Again (flat_map (repeated_after []) (braces_of spec))

abbrev pub marks_of_member : Member → List Mark
marks_of_member (members.Named name) = []
marks_of_member (members.Node type) = marks.Element type.name ∷ marks_in type.spec
marks_of_member (members.Edge type) =
    marks.Element type.name ∷ marks_in type.source ++ marks_in type.middle ++ marks_in type.target

abbrev pub marks_of : Statement → List Mark
marks_of (Node type) = marks_of_member (members.Node type)
marks_of (Edge type) = marks_of_member (members.Edge type)
marks_of (Graph type) = marks.Graph type.name ∷ flat_map marks_of_member type.members

-- whether a mark is a second one, after those that stand before
abbrev pub is_after : Mark → Mark → Bool
is_after (marks.Element a) (marks.Element b) = same_name a b
is_after (marks.Graph a) (marks.Graph b) = same_name a b
is_after _ _ = false

abbrev pub is_second : List Mark → Mark → Bool
is_second earlier (marks.Again name) = true
is_second earlier mark = list_any (is_after mark) earlier

abbrev pub seconds_after : List Mark → List Mark → List (List ℕ)
seconds_after earlier [] = []
seconds_after earlier (mark ∷ marks) =
    (if is_second earlier mark then marked mark ∷ [] else []) ++ seconds_after (mark ∷ earlier) marks

-- the names that are declared twice, each by its second place
abbrev pub duplicates : Script → List (List ℕ)
duplicates script = seconds_after [] (flat_map marks_of script.statements)

-- ---- not declared

-- a member that is listed by a name that no element type has
abbrev pub unknown_member : Script → Member → List (List ℕ)
unknown_member script (members.Named name) = if is_node_type script name || is_edge_type script name then [] else name ∷ []
unknown_member script _ = []

abbrev pub unknown_in : Script → GraphType → List (List ℕ)
unknown_in script type =
    filter (λ name. not (is_graph_type script name)) type.imports ++ flat_map (unknown_member script) type.members

abbrev pub unknowns : Script → List (List ℕ)
unknowns script = flat_map (unknown_in script) (graphs_of script)

-- ---- of the wrong kind

-- names that stand where edge types may be named, or where node types may be
abbrev pub uses_as : Bool → List (List ℕ) → List Use
uses_as of_edge names = map (λ name. record { of_edge = of_edge; name = name }) names

abbrev pub uses_in_member : Member → List Use
uses_in_member (members.Named name) = []
uses_in_member (members.Node type) = uses_as false (words_of type.spec)
uses_in_member (members.Edge type) =
    uses_as false (words_of type.source) ++ uses_as true (words_of type.middle) ++ uses_as false (words_of type.target)

abbrev pub uses_in_step : RawStep → List Use
uses_in_step step = uses_as true step.edge.filter.names ++ uses_as false step.node.filter.names

abbrev pub uses_in_path : RawPath → List Use
uses_in_path path = uses_as false path.start.filter.names ++ flat_map uses_in_step path.steps

abbrev pub uses_in_key : RawKey → List Use
uses_in_key key = flat_map uses_in_path key.scope ++ option_map_or (flat_map uses_in_path) key.within []

abbrev pub uses_in : Statement → List Use
uses_in (Node type) = uses_in_member (members.Node type)
uses_in (Edge type) = uses_in_member (members.Edge type)
uses_in (Graph type) = flat_map uses_in_member type.members ++ flat_map uses_in_key type.keys

-- the node types where edge types may be named, and the edge types where node types may be
abbrev pub is_wrong : Script → Use → Bool
is_wrong script meant = if meant.of_edge then is_node_type script meant.name else is_edge_type script meant.name

abbrev pub wrong_kinds : Script → List (List ℕ)
wrong_kinds script = map (λ (meant : Use). meant.name) (filter (is_wrong script) (flat_map uses_in script.statements))

-- ---- on a cycle

-- the names that an element type's specifications name, and those that a graph type imports
abbrev pub named_by : Script → List ℕ → List (List ℕ)
named_by script name =
    option_map_or (λ (type : NodeType (List ℕ)). words_of type.spec) (node_named script name) []
    ++ option_map_or (λ (type : EdgeType (List ℕ)). words_of type.source ++ words_of type.middle ++ words_of type.target)
    (edge_named script name) []

abbrev pub imported_by : Script → List ℕ → List (List ℕ)
imported_by script name = option_map_or (λ (type : GraphType). type.imports) (graph_named script name) []

-- whether one name leads to another in at most so many steps, one or more
abbrev pub leads : (List ℕ → List (List ℕ)) → ℕ → List ℕ → List ℕ → Bool
leads next zero from to = false
leads next (suc steps) from to = list_any (λ name. same_name to name || leads next steps name to) (next from)

-- the names that lead back to themselves: a cycle has no more steps than there are names
abbrev pub cyclic : (List ℕ → List (List ℕ)) → List (List ℕ) → List (List ℕ)
cyclic next names = filter (λ name. leads next (length names) name name) names

-- the least name by its bytes
abbrev pub lesser : List ℕ → List ℕ → List ℕ
lesser a b = if is_lt (slice_cmp nat_cmp b a) then b else a

abbrev pub least : List (List ℕ) → Option (List ℕ)
least [] = None
least (name ∷ names) = Some (option_map_or (lesser name) (least names) name)

-- the least of all element types on a cycle of naming and graph types on a cycle of imports
abbrev pub cycle : Script → Option (List ℕ)
cycle script =
    let nodes = map (λ (type : NodeType (List ℕ)). type.name) (nodes_of script) in
    let edges = map (λ (type : EdgeType (List ℕ)). type.name) (edges_of script) in
    let graphs = map (λ (type : GraphType). type.name) (graphs_of script) in
    least (cyclic (named_by script) (nodes ++ edges) ++ cyclic (imported_by script) graphs)
