-- The words that the types of a schema know: labels and keys, of nodes and apart from them of edges.
use Rattle.std.specs.Prelude.{ℕ, Bool, true, false, ◌||◌, List, [], ◌∷◌, ◌++◌, map, filter_map, flat_map, not, length, ◌==◌}
use Rattle.std.specs.List.{list_any}
use Rattle.pgs_base.specs.Pair.{has_name}
use Rattle.pgs_syntax.specs.declared.element_type.NodeType.{NodeType}
use Rattle.pgs_syntax.specs.declared.element_type.EdgeType.{EdgeType}
use Rattle.pgs_syntax.specs.declared.resolved.Resolved.{Resolved}
use Rattle.pgs_syntax.specs.declared.specification.Leaf.{Leaf}
use Rattle.pgs_syntax.specs.declared.specification.Spec.{Spec}
use Rattle.pgs_advice.specs.declared.words.Known.{Known}
use Rattle.pgs_advice.specs.declared.words.Words.{Words}
use Rattle.pgs_advice.specs.Parts.{parts_of, label_in, keys_in, has_any_label, has_any_key}

-- what parts of specifications know, and whether there is a type of their kind
abbrev pub known_in : (declared : Bool) → List (Spec Leaf) → Known
known_in declared parts = record {
  declared = declared;
  labels = filter_map label_in parts;
  keys = flat_map keys_in parts;
  any_label = list_any has_any_label parts;
  any_key = list_any has_any_key parts;
}

-- the specifications of an edge type's ends
abbrev pub ends_of : EdgeType Leaf → List (Spec Leaf)
ends_of type = type.source ∷ type.target ∷ []

-- the specifications of nodes: of node types, and of the ends of edge types; and of edges: of the middles of edge types
abbrev pub node_specs : Resolved → List (Spec Leaf)
node_specs resolved = map (λ (type : NodeType Leaf). type.spec) resolved.nodes ++ flat_map ends_of resolved.edges

abbrev pub edge_specs : Resolved → List (Spec Leaf)
edge_specs resolved = map (λ (type : EdgeType Leaf). type.middle) resolved.edges

-- what the types of a schema know, of nodes and of edges
abbrev pub known_nodes : Resolved → Known
known_nodes resolved = known_in (not (length resolved.nodes == 0)) (flat_map parts_of (node_specs resolved))

abbrev pub known_edges : Resolved → Known
known_edges resolved = known_in (not (length resolved.edges == 0)) (flat_map parts_of (edge_specs resolved))

abbrev pub words_of : Resolved → Words
words_of resolved = record { nodes = known_nodes resolved; edges = known_edges resolved }

-- Whether a label, or a key, is known: a type has it, or some type has any; or there is no type that could.
abbrev pub knows_label : Known → List ℕ → Bool
knows_label known label = not known.declared || (known.any_label || has_name label known.labels)

abbrev pub knows_key : Known → List ℕ → Bool
knows_key known key = not known.declared || (known.any_key || has_name key known.keys)

-- what is known at an edge place, or at a node place
abbrev pub known_at : Words → Bool → Known
known_at words true = words.edges
known_at words false = words.nodes
