-- Deltas: rows that are put into a graph or taken out of it.
use Rattle.std.specs.Prelude.{Bool, ◌&&◌, List, [], ◌∷◌, Option, Some, None}
use Rattle.std.specs.declared.cmp.Ordering.{Ordering}
use Rattle.std.specs.BTreeMap.{is_at, insert_entry}
use Rattle.std.specs.Map.{keys_of, remove_entry}
use Rattle.pgs_base.specs.Graph.{Graph, node_cmp, edge_cmp, is_graph}
use Rattle.pgs_base.specs.Order.{ascends}
use Rattle.pgs_graph.specs.declared.delta.Delta.{Delta}

-- entries after a change at a key: its value put in, or the key taken out
abbrev pub entry_changed : {K V : Type 0} → (K → K → Ordering) → List (K × V) → K → Option V → List (K × V)
entry_changed cmp entries key (Some value) = insert_entry cmp entries key value
entry_changed cmp entries key None = remove_entry (is_at (cmp key)) entries

-- entries after changes, one after another
abbrev pub entries_changed : {K V : Type 0} → (K → K → Ordering) → List (K × V) → List (K × Option V) → List (K × V)
entries_changed cmp entries [] = entries
entries_changed cmp entries (change ∷ changes) = entries_changed cmp (entry_changed cmp entries change.0 change.1) changes

-- the graph that a delta makes of a graph
abbrev pub changed : Graph → Delta → Graph
changed g delta = record {
  nodes = entries_changed node_cmp g.nodes delta.nodes;
  edges = entries_changed edge_cmp g.edges delta.edges;
}

-- whether a delta is sound for a graph: its numbers ascend strictly, and it makes a graph of it
abbrev pub is_sound : Graph → Delta → Bool
is_sound g delta =
    ascends node_cmp (keys_of delta.nodes) && ascends edge_cmp (keys_of delta.edges) && is_graph (changed g delta)

-- what stands at a key after changes: the change of the key, where there is one, and else what stood there
abbrev pub after_changes : {V : Type 0} → Option (Option V) → Option V → Option V
after_changes None old = old
after_changes (Some new) old = new
