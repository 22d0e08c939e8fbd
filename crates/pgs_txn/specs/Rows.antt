-- Rows as a transaction has changed them so far, and at which nodes its edges stand.
use Rattle.std.specs.Prelude.{◌≡◌, Bool, true, false, List, Option, Some, None, is_some, ◌≤◌}
use Rattle.std.specs.declared.cmp.Ordering.{Ordering}
use Rattle.std.specs.Ordering.{nat_cmp, ordering_then}
use Rattle.std.specs.BTreeMap.{is_at}
use Rattle.std.specs.List.{list_any}
use Rattle.std.specs.List.Sorted.{IsStrictlySortedBy}
use Rattle.std.specs.Map.{keys_of, lookup}
use Rattle.std.specs.BTreeSet.{insert_key}
use Rattle.std.specs.Set.{remove_key}
use Rattle.pgs_base.specs.declared.element.NodeId.{NodeId}
use Rattle.pgs_base.specs.declared.element.EdgeId.{EdgeId}
use Rattle.pgs_base.specs.declared.row.EdgeRow.{EdgeRow}
use Rattle.pgs_base.specs.Graph.{node_cmp, edge_cmp, is_end}
use Rattle.pgs_graph.specs.declared.delta.Delta.{Delta}
use Rattle.pgs_txn.specs.declared.changed_rows.EdgeEnd.{EdgeEnd}
use Rattle.pgs_txn.specs.declared.changed_rows.ChangedRows.{ChangedRows}

-- ends of edges go by node, and then by edge
abbrev pub end_cmp : EdgeEnd → EdgeEnd → Ordering
end_cmp a b = ordering_then (nat_cmp a.node.0 b.node.0) (nat_cmp a.edge.0 b.edge.0)

-- the delta that the changes are
abbrev pub delta_of : ChangedRows → Delta
delta_of rows = record { nodes = rows.nodes; edges = rows.edges }

-- whether there is an edge, and a node is an end of it
abbrev pub has_end : NodeId → Option EdgeRow → Bool
has_end id None = false
has_end id (Some row) = is_end id row

-- whether an edge was changed to a row that has a node as an end
abbrev pub was_put_at : NodeId → Option (Option EdgeRow) → Bool
was_put_at id None = false
was_put_at id (Some row) = has_end id row

-- the change of an edge, where there is one
abbrev pub edge_change : ChangedRows → EdgeId → Option (Option EdgeRow)
edge_change rows id = lookup (is_at (edge_cmp id)) rows.edges

-- whether an edge was changed to a row
abbrev pub was_put : Option (Option EdgeRow) → Bool
was_put None = false
was_put (Some row) = is_some row

-- whether an edge was changed
abbrev pub is_changed : ChangedRows → EdgeId → Bool
is_changed rows id = is_some (edge_change rows id)

-- the ends after those of an edge are put in
abbrev pub ends_with : EdgeId → EdgeRow → List EdgeEnd → List EdgeEnd
ends_with id row ends =
    insert_key end_cmp (insert_key end_cmp ends (record { node = row.source; edge = id })) (record { node = row.target; edge = id })

-- the ends that are left when those of a changed edge are taken out
abbrev pub ends_left : EdgeId → Option (Option EdgeRow) → List EdgeEnd → List EdgeEnd
ends_left id None ends = ends
ends_left id (Some None) ends = ends
ends_left id (Some (Some row)) ends =
    remove_key (is_at (end_cmp (record { node = row.target; edge = id })))
    (remove_key (is_at (end_cmp (record { node = row.source; edge = id }))) ends)

-- rows by ascending numbers, and with the ends of exactly the edges that were put in
pub record IsIndexed (rows : ChangedRows) : Type 0 where
  pub nodes_ascend : IsStrictlySortedBy node_cmp (keys_of rows.nodes)
  pub edges_ascend : IsStrictlySortedBy edge_cmp (keys_of rows.edges)
  pub ends_ascend : IsStrictlySortedBy end_cmp (keys_of rows.ends)
  pub ends : (at : EdgeEnd) → list_any (is_at (end_cmp at)) (keys_of rows.ends) ≡ was_put_at at.node (edge_change rows at.edge)

-- the least edge that passes a test, or that there is none
abbrev pub IsLeast : (EdgeId → Bool) → Option EdgeId → Type 0
IsLeast test None = (edge : EdgeId) → test edge ≡ false
IsLeast test (Some edge) = (test edge ≡ true) × ((other : EdgeId) → test other ≡ true → edge.0 ≤ other.0)
