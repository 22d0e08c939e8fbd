-- A pending change, as it is searched: the old graph, the new one, and the elements of the delta with what they carry in both.
use Rattle.std.specs.Prelude.{◌≡◌, Bool, true, false, ◌&&◌, ◌==◌, Option, Some, None, List, ◌++◌, map}
use Rattle.std.specs.Map.{keys_of}
use Rattle.pgs_base.specs.declared.element.Elem.{Elem}
use Rattle.pgs_base.specs.declared.element.Elem.TheVariants.{Node, Edge}
use Rattle.pgs_base.specs.declared.row.EdgeRow.{EdgeRow}
use Rattle.pgs_base.specs.Graph.{Graph, edge_at, is_graph}
use Rattle.pgs_base.specs.Order.{ascends, elem_cmp}
use Rattle.pgs_graph.specs.declared.delta.Delta.{Delta}
use Rattle.pgs_syntax.specs.Matches.{carried}
use Rattle.pgs_check_affected.specs.declared.known.Known.{Known}
use Rattle.pgs_check_affected.specs.Local.{is_one_of, AgreeBut}

-- what contracts see of a change
pub record ChangeState : Type 0 where
  pub before : Graph
  pub after : Graph
  pub elems : List Elem

-- the elements of a delta: its nodes, and then its edges
abbrev pub elems_of : Delta → List Elem
elems_of delta = map (λ id. Node id) (keys_of delta.nodes) ++ map (λ id. Edge id) (keys_of delta.edges)

-- whether an edge is in neither of two graphs, or in both with the same ends
abbrev pub have_same_ends : Option EdgeRow → Option EdgeRow → Bool
have_same_ends None None = true
have_same_ends (Some row) (Some other) = row.source.0 == other.source.0 && row.target.0 == other.target.0
have_same_ends _ _ = false

-- the same of an element; a node has no ends
abbrev pub keeps_ends : Graph → Graph → Elem → Bool
keeps_ends g h (Node id) = true
keeps_ends g h (Edge id) = have_same_ends (edge_at g id) (edge_at h id)

-- what is known of an element: what it carries in both graphs, and whether it keeps its ends
abbrev pub known_in : Graph → Graph → Elem → Known
known_in g h elem = record { elem = elem; before = carried g elem; after = carried h elem; keeps_ends = keeps_ends g h elem }

-- two graphs that agree but for some elements, which ascend, and what is known of these
pub record IsChange (g h : Graph) (elems : List Elem) (known : List Known) : Type 0 where
  pub before : is_graph g ≡ true
  pub after : is_graph h ≡ true
  pub ascending : ascends elem_cmp elems ≡ true
  pub rows : known ≡ map (known_in g h) elems
  pub agree : AgreeBut (is_one_of elems) g h
