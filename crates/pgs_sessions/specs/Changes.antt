-- What the numbers that are kept say of an element.
use Rattle.std.specs.Prelude.{◌≡◌, ℕ, Bool, List, [], ◌∷◌, Option, Some, if◌then◌else◌}
use Rattle.std.specs.BTreeMap.{is_at}
use Rattle.std.specs.Map.{lookup}
use Rattle.pgs_base.specs.declared.element.NodeId.{NodeId}
use Rattle.pgs_base.specs.declared.element.EdgeId.{EdgeId}
use Rattle.pgs_base.specs.declared.element.Elem.{Elem}
use Rattle.pgs_base.specs.declared.element.Elem.TheVariants.{Node, Edge}
use Rattle.pgs_base.specs.Graph.{node_cmp, edge_cmp}
use Rattle.pgs_base.specs.Order.{elem_cmp}
use Rattle.pgs_sessions.specs.declared.changes.Changes.{Changes}
use Rattle.pgs_tables.specs.Slots.{has_slot}

-- the number that is kept for an element
abbrev pub number_in : List (NodeId × ℕ) → List (EdgeId × ℕ) → Elem → Option ℕ
number_in nodes edges (Node id) = lookup (is_at (node_cmp id)) nodes
number_in nodes edges (Edge id) = lookup (is_at (edge_cmp id)) edges

abbrev pub last_in : Changes → Elem → Option ℕ
last_in changes elem = number_in changes.nodes.rows changes.edges.rows elem

-- whether a number can be kept for an element without memory
abbrev pub has_room : Changes → Elem → Bool
has_room changes (Node id) = has_slot node_cmp changes.nodes id
has_room changes (Edge id) = has_slot edge_cmp changes.edges id

-- the same numbers are kept
pub record IsSame (old new : Changes) : Type 0 where
  pub nodes : new.nodes.rows ≡ old.nodes.rows
  pub edges : new.edges.rows ≡ old.edges.rows

-- what is kept for an element, after a commit's number is kept for elements one after another
abbrev pub number_after : ℕ → Elem → Option ℕ → List Elem → Option ℕ
number_after commit elem old [] = old
number_after commit elem old (other ∷ others) = number_after commit elem (if is_at (elem_cmp other) elem then Some commit else old) others
