-- What becomes of the numbers and the room of all elements, where a table of one kind changes.
use Rattle.std.proofs.Common.{◌≡◌, ℕ, ◌+◌, ◌<◌, Bool, true, List, [], ◌∷◌, ◌++◌, length, take, get_or, Some, refl, ap, ◌∙◌}
use Rattle.std.specs.Prelude.{if◌then◌else◌}
use Rattle.std.specs.Map.{lookup}
use Rattle.std.specs.List.{list_all}
use Rattle.std.proofs.lemmas.Bool.{and_parts, and_from}
use Rattle.std.proofs.lemmas.List.{take_more}
use Rattle.std.specs.BTreeMap.{is_at, insert_entry}
use Rattle.pgs_base.specs.declared.element.NodeId.{NodeId}
use Rattle.pgs_base.specs.declared.element.EdgeId.{EdgeId}
use Rattle.pgs_base.specs.declared.element.Elem.{Elem}
use Rattle.pgs_base.specs.declared.element.Elem.TheVariants.{Node, Edge}
use Rattle.pgs_base.specs.Graph.{node_cmp, edge_cmp}
use Rattle.pgs_base.specs.Order.{elem_cmp}
use Rattle.pgs_base.proofs.Lookups.{lookup-insert_entry}
use Rattle.pgs_graph.proofs.Deltas.{node_cmp_total, edge_cmp_total}
use Rattle.pgs_tables.specs.Slots.{Slots, has_slot}
use Rattle.pgs_sessions.specs.declared.changes.Changes.{Changes}
use Rattle.pgs_sessions.specs.Changes.{number_in, has_room, IsSame}

pub node_set : (old new : List (NodeId × ℕ)) (edges : List (EdgeId × ℕ)) (id : NodeId) (commit : ℕ) → new ≡ insert_entry node_cmp old id commit → (other : Elem) →
    number_in new edges other ≡ if is_at (elem_cmp (Node id)) other then Some commit else number_in old edges other
node_set old new edges id commit put (Node q) = ap (lookup (is_at (node_cmp q))) put ∙ lookup-insert_entry node_cmp_total q id commit old
node_set old new edges id commit put (Edge q) = refl

pub edge_set : (old new : List (EdgeId × ℕ)) (nodes : List (NodeId × ℕ)) (id : EdgeId) (commit : ℕ) → new ≡ insert_entry edge_cmp old id commit → (other : Elem) →
    number_in nodes new other ≡ if is_at (elem_cmp (Edge id)) other then Some commit else number_in nodes old other
edge_set old new nodes id commit put (Node q) = refl
edge_set old new nodes id commit put (Edge q) = ap (lookup (is_at (edge_cmp q))) put ∙ lookup-insert_entry edge_cmp_total q id commit old

-- ---- room

pub node_room : (old new : Slots NodeId ℕ) (edges : Slots EdgeId ℕ) → ((q : NodeId) → has_slot node_cmp old q ≡ true → has_slot node_cmp new q ≡ true) → (other : Elem) →
    has_room (record { nodes = old; edges = edges }) other ≡ true → has_room (record { nodes = new; edges = edges }) other ≡ true
node_room old new edges kept (Node q) room = kept q room
node_room old new edges kept (Edge q) room = room

pub edge_room : (nodes : Slots NodeId ℕ) (old new : Slots EdgeId ℕ) → ((q : EdgeId) → has_slot edge_cmp old q ≡ true → has_slot edge_cmp new q ≡ true) → (other : Elem) →
    has_room (record { nodes = nodes; edges = old }) other ≡ true → has_room (record { nodes = nodes; edges = new }) other ≡ true
edge_room nodes old new kept (Node q) room = room
edge_room nodes old new kept (Edge q) room = kept q room

all_kept : (test other : Elem → Bool) → ((q : Elem) → test q ≡ true → other q ≡ true) → (es : List Elem) → list_all test es ≡ true → list_all other es ≡ true
all_kept test other kept [] all = refl
all_kept test other kept (e ∷ es) all = let parts = and_parts (test e) (list_all test es) all in and_from _ _ (kept e parts.0) (all_kept test other kept es parts.1)

all_more : (test : Elem → Bool) (xs : List Elem) (x : Elem) → list_all test xs ≡ true → test x ≡ true → list_all test (xs ++ x ∷ []) ≡ true
all_more test [] x all is = and_from _ _ is refl
all_more test (e ∷ es) x all is = let parts = and_parts (test e) (list_all test es) all in and_from _ _ parts.0 (all_more test es x parts.1 is)

-- one element more has room
pub room_more : (old new : Changes) (es : List Elem) (i : ℕ) (d : Elem) → i < length es → ((q : Elem) → has_room old q ≡ true → has_room new q ≡ true) →
    list_all (has_room old) (take i es) ≡ true → has_room new (get_or es i d) ≡ true → list_all (has_room new) (take (i + 1) es) ≡ true
room_more old new es i d within kept all is =
    ap (list_all (has_room new)) (take_more es i d within)
    ∙ all_more (has_room new) (take i es) (get_or es i d) (all_kept (has_room old) (has_room new) kept (take i es) all) is

pub same_more : (old mid new : Changes) → IsSame old mid → IsSame mid new → IsSame old new
same_more old mid new p q = record { nodes = q.nodes ∙ p.nodes; edges = q.edges ∙ p.edges }
