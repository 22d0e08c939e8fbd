-- The order of types in a resolved schema, and names as labels or types. Node types, and apart from them edge types, are
-- listed so that each next one is the least by place among those whose named types of the same kind are all listed.
use Rattle.std.specs.Prelude.{ℕ, zero, suc, Bool, not, List, [], ◌∷◌, ◌++◌, length, Option, Some, None, map, filter, filter_map, if◌then◌else◌, nat_le, option_map}
use Rattle.std.specs.List.{list_all, position}
use Rattle.std.specs.Option.{option_map_or}
use Rattle.pgs_syntax.specs.declared.element_type.NodeType.{NodeType}
use Rattle.pgs_syntax.specs.declared.element_type.EdgeType.{EdgeType}
use Rattle.pgs_syntax.specs.declared.script.Script.{Script}
use Rattle.pgs_syntax.specs.declared.specification.Leaf.{Leaf}
use Rattle.pgs_syntax.specs.declared.specification.Leaf.TheVariants.{Label, Named}
use Rattle.pgs_syntax.specs.declared.specification.Spec as specs
use Rattle.pgs_syntax.specs.declared.specification.Spec.{Spec, Empty, Word, OpenLabels, And', Or', Opt', Row_of-Spec, end_of-Spec, more_of-Spec}
use Rattle.pgs_base.specs.Pair.{same_name, has_name}
pub use Rattle.pgs_resolve_declared.specs.declared.order.Numbering.{Numbering}
use Rattle.pgs_resolve_declared.specs.Declarations.{words_of, nodes_of, edges_of, node_named, edge_named, is_node_type, is_edge_type}

-- a type to be listed: its name, its place, and the types of its kind that it names
pub record Entry : Type 0 where
  pub name : List ℕ
  pub place : ℕ
  pub names : List (List ℕ)

-- whether all types that it names are listed
abbrev pub is_ready : List (List ℕ) → Entry → Bool
is_ready listed entry = list_all (λ name. has_name name listed) entry.names

-- the entry of the least place
abbrev pub sooner : Entry → Entry → Entry
sooner a b = if nat_le a.place b.place then a else b

abbrev pub soonest : List Entry → Option Entry
soonest [] = None
soonest (entry ∷ entries) = Some (option_map_or (sooner entry) (soonest entries) entry)

-- the names of the entries that are left, at most so many of them, in order behind those that are listed
abbrev pub listing : ℕ → List (List ℕ) → List Entry → List (List ℕ)
listing zero listed left = listed
listing (suc further) listed left = elim (soonest (filter (is_ready listed) left)) [
  | None ↦ listed
  | Some entry ↦ listing further (listed ++ entry.name ∷ []) (filter (λ (other : Entry). not (same_name entry.name other.name)) left)
]

abbrev pub node_entry : Script → NodeType (List ℕ) → Entry
node_entry script type =
    record { name = type.name; place = type.place; names = filter (is_node_type script) (words_of type.spec) }

abbrev pub edge_entry : Script → EdgeType (List ℕ) → Entry
edge_entry script type =
    record { name = type.name; place = type.place; names = filter (is_edge_type script) (words_of type.middle) }

-- the names of the node types and of the edge types, each at the place of its number
abbrev pub numbering_of : Script → Numbering
numbering_of script = record {
  nodes = listing (length (nodes_of script)) [] (map (node_entry script) (nodes_of script));
  edges = listing (length (edges_of script)) [] (map (edge_entry script) (edges_of script));
}

-- the number of a name, where it has one
abbrev pub number_in : List (List ℕ) → List ℕ → Option ℕ
number_in names name = position (same_name name) names

-- a name in a label position: the type of that name, where there is one, else the label
abbrev pub leaf_in : List (List ℕ) → List ℕ → Leaf
leaf_in names name = option_map_or Named (number_in names name) (Label name)

-- a specification with its names resolved
abbrev mutual
  pub resolved_spec : List (List ℕ) → Spec (List ℕ) → Spec Leaf
  resolved_spec names Empty = Empty
  resolved_spec names (Word name) = Word (leaf_in names name)
  resolved_spec names OpenLabels = OpenLabels
  resolved_spec names (specs.Braces braces) = specs.Braces braces
  resolved_spec names (And' n parts) = And' n (resolved_specs names parts)
  resolved_spec names (Or' n parts) = Or' n (resolved_specs names parts)
  resolved_spec names (Opt' n part) = Opt' n (resolved_specs names part)

  pub resolved_specs : List (List ℕ) → {n : _} → Row_of-Spec (List ℕ) n → Row_of-Spec Leaf n
  resolved_specs names end_of-Spec = end_of-Spec
  resolved_specs names (more_of-Spec part parts) = more_of-Spec (resolved_spec names part) (resolved_specs names parts)

abbrev pub resolved_node : Numbering → NodeType (List ℕ) → NodeType Leaf
resolved_node numbering type = record {
  name = type.name;
  hidden = type.hidden;
  place = type.place;
  spec = resolved_spec numbering.nodes type.spec;
}

-- at its ends an edge type names node types, and in its middle edge types
abbrev pub resolved_edge : Numbering → EdgeType (List ℕ) → EdgeType Leaf
resolved_edge numbering type = record {
  name = type.name;
  hidden = type.hidden;
  place = type.place;
  source = resolved_spec numbering.nodes type.source;
  middle = resolved_spec numbering.edges type.middle;
  target = resolved_spec numbering.nodes type.target;
}

-- all node types and all edge types in order
abbrev pub resolved_nodes : Script → Numbering → List (NodeType Leaf)
resolved_nodes script numbering = filter_map (λ name. option_map (resolved_node numbering) (node_named script name)) numbering.nodes

abbrev pub resolved_edges : Script → Numbering → List (EdgeType Leaf)
resolved_edges script numbering = filter_map (λ name. option_map (resolved_edge numbering) (edge_named script name)) numbering.edges
