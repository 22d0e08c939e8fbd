-- When two graphs agree but for some elements, and which elements of a match can make it differ between them.
use Rattle.std.specs.Prelude.{◌≡◌, ◌⊎◌, Bool, false, ◌&&◌, ◌||◌, ◌==◌, List, length}
use Rattle.std.specs.Option.{option_map_or}
use Rattle.std.specs.List.{list_any}
use Rattle.pgs_base.specs.declared.element.NodeId.{NodeId}
use Rattle.pgs_base.specs.declared.element.EdgeId.{EdgeId}
use Rattle.pgs_base.specs.declared.element.Elem.{Elem}
use Rattle.pgs_base.specs.declared.element.Elem.TheVariants.{Node, Edge}
use Rattle.pgs_base.specs.declared.row.EdgeRow.{EdgeRow}
use Rattle.pgs_base.specs.Graph.{Graph, node_at, edge_at}
use Rattle.pgs_syntax.specs.declared.key.Key.{Key}
use Rattle.pgs_syntax.specs.declared.pattern.Pattern.{Pattern}
use Rattle.pgs_syntax.specs.declared.resolved.Resolved.{Resolved}
use Rattle.pgs_syntax.specs.KeyValues.{starts_at, is_in_scope, key_values}
use Rattle.pgs_syntax.specs.Matches.{same_elem, matches}
use Rattle.pgs_syntax.specs.Valid.{is_edge_var}

-- whether an element is one of a list
abbrev pub is_one_of : List Elem → Elem → Bool
is_one_of elems elem = list_any (same_elem elem) elems

-- Two graphs agree but for the elements that pass a test: each other node, and each other edge, has one row in both or is in neither.
pub record AgreeBut (touched : Elem → Bool) (g h : Graph) : Type 0 where
  pub nodes : (id : NodeId) → touched (Node id) ≡ false → node_at g id ≡ node_at h id
  pub edges : (id : EdgeId) → touched (Edge id) ≡ false → edge_at g id ≡ edge_at h id

-- whether an element is an edge of the graph that has a touched end
abbrev pub has_touched_end : (Elem → Bool) → Graph → Elem → Bool
has_touched_end touched g (Node id) = false
has_touched_end touched g (Edge id) =
    option_map_or (λ (row : EdgeRow). touched (Node row.source) || touched (Node row.target)) (edge_at g id) false

-- whether a pattern is one edge alone, so that its matches don't bind the ends
abbrev pub is_edge_alone : Pattern → Bool
is_edge_alone pattern = length pattern.edge_vars == 1 && is_edge_var pattern.edge_vars 0

-- Whether what is asked of an element may differ between graphs that agree but for touched elements: it is touched, or the pattern is
-- one edge alone and it is an edge that has a touched end.
abbrev pub may_differ : (Elem → Bool) → Graph → Pattern → Elem → Bool
may_differ touched g pattern elem = touched elem || (is_edge_alone pattern && has_touched_end touched g elem)

-- whether some match of a pattern starts at an element and binds one that may differ
abbrev pub binds_touched : Resolved → (Elem → Bool) → Graph → Pattern → Elem → Bool
binds_touched resolved touched g pattern elem =
    list_any (λ elems. starts_at elem elems && list_any (may_differ touched g pattern) elems) (matches resolved g pattern)

-- an element has one place in the scope of a key and one set of key values in both graphs
pub record HasOneRow (resolved : Resolved) (g h : Graph) (key : Key) (elem : Elem) : Type 0 where
  pub place : is_in_scope resolved g key elem ≡ is_in_scope resolved h key elem
  pub values : key_values resolved g key elem ≡ key_values resolved h key elem

-- an element is outside the scope of a key in both graphs, or has one place in it and one set of key values in both
abbrev pub IsAlike : Resolved → Graph → Graph → Key → Elem → Type 0
IsAlike resolved g h key elem =
    ((is_in_scope resolved g key elem ≡ false) × (is_in_scope resolved h key elem ≡ false)) ⊎ HasOneRow resolved g h key elem
