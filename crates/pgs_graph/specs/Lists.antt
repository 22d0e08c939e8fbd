-- The edges at each node, listed by one of their ends, and what a change of edges makes of the lists.
use Rattle.std.specs.Prelude.{◌≡◌, ◌==◌, Bool, true, false, cond, List, [], fold, Option, Some, None, unwrap_or}
use Rattle.std.specs.Map.{lookup}
use Rattle.std.specs.BTreeMap.{is_at}
use Rattle.std.specs.BTreeSet.{insert_key}
use Rattle.std.specs.Set.{remove_key}
use Rattle.pgs_base.specs.declared.element.NodeId.{NodeId}
use Rattle.pgs_base.specs.declared.element.EdgeId.{EdgeId}
use Rattle.pgs_base.specs.declared.row.EdgeRow.{EdgeRow}
use Rattle.pgs_base.specs.Graph.{Graph, node_cmp, edge_cmp, is_graph}
use Rattle.pgs_graph.specs.declared.scan.End.{End}
use Rattle.pgs_graph.specs.declared.scan.End.TheVariants.{Source, Target}
use Rattle.pgs_graph.specs.Changed.{after_changes}
use Rattle.pgs_graph.specs.Reads.{end_of, edges_with}

-- the edges that lists have at a node; where it has no list, none
abbrev pub listed : List (NodeId × List EdgeId) → NodeId → List EdgeId
listed lists id = unwrap_or (lookup (is_at (node_cmp id)) lists) []

-- the same after changes of the lists
abbrev pub listed_after : List (NodeId × List EdgeId) → List (NodeId × Option (List EdgeId)) → NodeId → List EdgeId
listed_after lists changes id = unwrap_or (after_changes (lookup (is_at (node_cmp id)) changes) (lookup (is_at (node_cmp id)) lists)) []

-- lists have at each node the edges that have it as this end
abbrev pub AreListed : End → List (EdgeId × EdgeRow) → List (NodeId × List EdgeId) → Type 0
AreListed end edges lists = (id : NodeId) → listed lists id ≡ edges_with end id edges

-- the rows are a graph, and the lists are its edges by source and by target
pub record AreParts (g : Graph) (by_source by_target : List (NodeId × List EdgeId)) : Type 0 where
  pub graph : is_graph g ≡ true
  pub outgoing : AreListed Source g.edges by_source
  pub incoming : AreListed Target g.edges by_target

-- a list with an edge put in or taken out
abbrev pub list_edited : Bool → EdgeId → List EdgeId → List EdgeId
list_edited adds edge list = cond adds (insert_key edge_cmp list edge) (remove_key (is_at (edge_cmp edge)) list)

-- whether a node is this end of an edge, where there is one
abbrev pub has_end : End → NodeId → Option EdgeRow → Bool
has_end end id None = false
has_end end id (Some row) = (end_of end row).0 == id.0

-- the list of a node edited where the node is this end of the edge
abbrev pub edited_with : End → NodeId → Bool → EdgeId → Option EdgeRow → List EdgeId → List EdgeId
edited_with end id adds edge row list = cond (has_end end id row) (list_edited adds edge list) list

-- the list of a node after a changed edge is taken out where it was, and put in where it is
abbrev pub relisted : End → NodeId → (EdgeId → Option EdgeRow) → List EdgeId → EdgeId × Option EdgeRow → List EdgeId
relisted end id old list change = edited_with end id true change.0 change.1 (edited_with end id false change.0 (old change.0) list)

-- the same after changes of edges
abbrev pub relisted_all : End → NodeId → List (EdgeId × EdgeRow) → List (EdgeId × Option EdgeRow) → List EdgeId → List EdgeId
relisted_all end id edges changes list = fold (relisted end id (λ edge. lookup (is_at (edge_cmp edge)) edges)) list changes
