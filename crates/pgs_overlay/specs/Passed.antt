-- The lists of the nodes of one side while a delta's edges are gone through, one by one.
use Rattle.std.specs.Prelude.{◌≡◌, ℕ, ◌≤◌, ◌==◌, Bool, true, false, cond, List, [], ◌∷◌, length, Option, Some, None}
use Rattle.std.specs.Option.{option_map}
use Rattle.std.specs.List.Sorted.{IsStrictlySortedBy}
use Rattle.std.specs.Map.{lookup}
use Rattle.std.specs.BTreeMap.{is_at}
use Rattle.std.specs.BTreeSet.{insert_key}
use Rattle.std.specs.Set.{remove_key}
use Rattle.pgs_base.specs.declared.element.NodeId.{NodeId}
use Rattle.pgs_base.specs.declared.element.EdgeId.{EdgeId}
use Rattle.pgs_base.specs.declared.row.EdgeRow.{EdgeRow}
use Rattle.pgs_base.specs.Graph.{Graph, node_cmp, edge_cmp, edge_at}
use Rattle.pgs_graph.specs.Reads.{end_of}
use Rattle.pgs_graph.specs.Changed.{entries_changed}
use Rattle.pgs_overlay.specs.declared.side.Side.{Side}
use Rattle.pgs_overlay.specs.declared.side.Side.TheVariants.{Out, In}
use Rattle.pgs_overlay.specs.declared.edit.EditKind.{EditKind}
use Rattle.pgs_overlay.specs.declared.edit.EditKind.TheVariants.{PutIn, TakeOut}
use Rattle.pgs_overlay.specs.declared.edited_list.EditedList.{EditedList}
use Rattle.pgs_overlay.specs.Edited.{IsEditedAt, IsReadyFor}
use Rattle.pgs_overlay.specs.Parts.{StandsOn}
use Rattle.pgs_overlay.specs.Sides.{end_at, edges_at}

-- the list that is kept for a node, where one is
abbrev pub list_at : List (NodeId × EditedList) → NodeId → Option EditedList
list_at lists id = lookup (is_at (node_cmp id)) lists

-- whether a node is an end, where there is one
abbrev pub is_here : NodeId → Option NodeId → Bool
is_here id None = false
is_here id (Some end) = end.0 == id.0

-- whether an edit is of an edge that the list has
abbrev pub takes_out : EditKind → Bool
takes_out PutIn = false
takes_out TakeOut = true

-- the edit of a node's list where an edge is put in or taken out at an end: none where that is another node, or no node
abbrev pub edit_here : EditKind → NodeId → Option NodeId → Option EditKind
edit_here kind id end = cond (is_here id end) (Some kind) None

-- the edit of a node's list where an edge goes from an old end to a new one: none where both are the node, or neither is
abbrev pub edit_between : NodeId → Option NodeId → Option NodeId → Option EditKind
edit_between id old new = cond (is_here id old) (cond (is_here id new) None (Some TakeOut)) (cond (is_here id new) (Some PutIn) None)

-- a list after an edit of an edge, where there is one
abbrev pub list_changed : Option EditKind → EdgeId → List EdgeId → List EdgeId
list_changed None edge list = list
list_changed (Some PutIn) edge list = insert_key edge_cmp list edge
list_changed (Some TakeOut) edge list = remove_key (is_at (edge_cmp edge)) list

-- what is kept for a node follows an edit: where it was the list before, with this edge and later ones still to come, it then is the
-- changed list, with the later ones to come
abbrev pub FollowsChange : List EdgeId → EdgeId → Option EditKind → Option EditedList → Option EditedList → Type 0
FollowsChange xs edge edit old new = (edited later : List EdgeId) → IsEditedAt xs edited (edge ∷ later) old →
    IsStrictlySortedBy edge_cmp (edge ∷ later) → IsEditedAt xs (list_changed edit edge edited) later new

-- what is kept for a node follows an edit, and stays where there is none
abbrev pub IsEditAt : List EdgeId → EdgeId → Option EditKind → Option EditedList → Option EditedList → Type 0
IsEditAt xs edge None old new = new ≡ old
IsEditAt xs edge (Some kind) old new = FollowsChange xs edge (Some kind) old new

-- the list that an edit begins with: what is kept, and else the base's list as it is
abbrev pub IsListOf : Option EditedList → EditedList → Type 0
IsListOf None list = (list.parts.items ≡ []) × (list.done ≡ 0) × ((xs : List EdgeId) → StandsOn xs list)
IsListOf (Some kept) list = list ≡ kept

-- an edge can be looked for behind what is done
abbrev pub IsReadyAt : EdgeId → List EdgeId → Option EditedList → Type 0
IsReadyAt edge xs None = Unit {0}
IsReadyAt edge xs (Some list) = IsReadyFor edge xs list

-- the same at every node
abbrev pub AreReady : EdgeId → Side → Graph → List (NodeId × EditedList) → Type 0
AreReady edge side g lists = (id : NodeId) → IsReadyAt edge (edges_at side id g.edges) (list_at lists id)

-- the lists are those after some changes of edges, and the later edges are still to come
abbrev pub ArePassed : Side → Graph → List (EdgeId × Option EdgeRow) → List EdgeId → List (NodeId × EditedList) → Type 0
ArePassed side g changes later lists = (id : NodeId) →
    IsEditedAt (edges_at side id g.edges) (edges_at side id (entries_changed edge_cmp g.edges changes)) later (list_at lists id)

-- a node has at most so many edges on each side
pub record HasFew (g : Graph) (most : ℕ) (id : NodeId) : Type 0 where
  pub outgoing : length (edges_at Out id g.edges) ≤ most
  pub incoming : length (edges_at In id g.edges) ≤ most

-- a row's node at which a side lists it, where there is a row
abbrev pub end_on : Side → Option EdgeRow → Option NodeId
end_on side row = option_map (end_of (end_at side)) row

-- all lists of a side follow a change of an edge of a graph, from its old row to its new one
abbrev pub AllFollow : Side → Graph → EdgeId × Option EdgeRow → List (NodeId × EditedList) → List (NodeId × EditedList) → Type 0
AllFollow side g change old new = (id : NodeId) → FollowsChange (edges_at side id g.edges) change.0
    (edit_between id (end_on side (edge_at g change.0)) (end_on side change.1)) (list_at old id) (list_at new id)
