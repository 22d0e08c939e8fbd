-- What a script declares, and what it names, in the order of the tree: statement by statement, and field by field.
use Rattle.std.specs.Prelude.{ℕ, Bool, true, false, List, [], ◌∷◌, ◌++◌, Option, Some, None, map, filter, filter_map, flat_map, is_some}
use Rattle.std.specs.List.{find}
use Rattle.pgs_syntax.specs.declared.element_type.NodeType.{NodeType}
use Rattle.pgs_syntax.specs.declared.element_type.EdgeType.{EdgeType}
use Rattle.pgs_syntax.specs.declared.raw.RawKey.{RawKey}
use Rattle.pgs_syntax.specs.declared.script.GraphType.{GraphType}
use Rattle.pgs_syntax.specs.declared.script.Member.{Member}
use Rattle.pgs_syntax.specs.declared.script.Member.TheVariants as members
use Rattle.pgs_syntax.specs.declared.script.Script.{Script}
use Rattle.pgs_syntax.specs.declared.script.Statement.{Statement}
use Rattle.pgs_syntax.specs.declared.script.Statement.TheVariants.{Node, Edge, Graph}
use Rattle.pgs_syntax.specs.declared.specification.Property.{Property}
use Rattle.pgs_syntax.specs.declared.specification.Spec as specs
use Rattle.pgs_syntax.specs.declared.specification.Spec.{Spec, Empty, Word, OpenLabels, And', Or', Opt', Row_of-Spec, end_of-Spec, more_of-Spec}
use Rattle.pgs_base.specs.Pair.{same_name}

-- the pieces of a specification that have no parts, in order
abbrev mutual
  pub pieces_of : Spec (List ℕ) → List (Spec (List ℕ))
  pieces_of (And' _ parts) = pieces_of_each parts
  pieces_of (Or' _ parts) = pieces_of_each parts
  pieces_of (Opt' _ part) = pieces_of_each part
  pieces_of Empty = []
  pieces_of OpenLabels = []
  pieces_of (Word name) = Word name ∷ []
  pieces_of (specs.Braces braces) = specs.Braces braces ∷ []

  pub pieces_of_each : {n : _} → Row_of-Spec (List ℕ) n → List (Spec (List ℕ))
  pieces_of_each end_of-Spec = []
  pieces_of_each (more_of-Spec part parts) = pieces_of part ++ pieces_of_each parts

-- the names in the label positions of a specification
abbrev pub word_in : Spec (List ℕ) → List (List ℕ)
word_in (Word name) = name ∷ []
word_in _ = []

abbrev pub words_of : Spec (List ℕ) → List (List ℕ)
words_of spec = flat_map word_in (pieces_of spec)

-- the keys of each of its pairs of braces
abbrev pub keys_in : Spec (List ℕ) → List (List (List ℕ))
keys_in (specs.Braces braces) = map (λ (property : Property). property.key) braces.properties ∷ []
keys_in _ = []

abbrev pub braces_of : Spec (List ℕ) → List (List (List ℕ))
braces_of spec = flat_map keys_in (pieces_of spec)

-- the element types that a statement declares, each as a member
abbrev pub is_declared : Member → Bool
is_declared (members.Named name) = false
is_declared _ = true

abbrev pub declared_in : Statement → List Member
declared_in (Node type) = members.Node type ∷ []
declared_in (Edge type) = members.Edge type ∷ []
declared_in (Graph type) = filter is_declared type.members

abbrev pub types_of : Script → List Member
types_of script = flat_map declared_in script.statements

-- the node types, the edge types and the graph types
abbrev pub node_in : Member → Option (NodeType (List ℕ))
node_in (members.Node type) = Some type
node_in _ = None

abbrev pub edge_in : Member → Option (EdgeType (List ℕ))
edge_in (members.Edge type) = Some type
edge_in _ = None

abbrev pub graph_in : Statement → Option GraphType
graph_in (Graph type) = Some type
graph_in _ = None

abbrev pub nodes_of : Script → List (NodeType (List ℕ))
nodes_of script = filter_map node_in (types_of script)

abbrev pub edges_of : Script → List (EdgeType (List ℕ))
edges_of script = filter_map edge_in (types_of script)

abbrev pub graphs_of : Script → List GraphType
graphs_of script = filter_map graph_in script.statements

-- all keys
abbrev pub keys_of : Script → List RawKey
keys_of script = flat_map (λ (type : GraphType). type.keys) (graphs_of script)

-- the type of a name, where there is one
abbrev pub node_named : Script → List ℕ → Option (NodeType (List ℕ))
node_named script name = find (λ (type : NodeType (List ℕ)). same_name name type.name) (nodes_of script)

abbrev pub edge_named : Script → List ℕ → Option (EdgeType (List ℕ))
edge_named script name = find (λ (type : EdgeType (List ℕ)). same_name name type.name) (edges_of script)

abbrev pub graph_named : Script → List ℕ → Option GraphType
graph_named script name = find (λ (type : GraphType). same_name name type.name) (graphs_of script)

-- whether a name is that of a node type, of an edge type, of a graph type
abbrev pub is_node_type : Script → List ℕ → Bool
is_node_type script name = is_some (node_named script name)

abbrev pub is_edge_type : Script → List ℕ → Bool
is_edge_type script name = is_some (edge_named script name)

abbrev pub is_graph_type : Script → List ℕ → Bool
is_graph_type script name = is_some (graph_named script name)
