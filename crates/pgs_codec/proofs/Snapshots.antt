-- Reading a snapshot: its parts, and then that they are a graph.
use Rattle.std.proofs.Common.{◌≡◌, ℕ, Bool, true, false, cond, List, Option, Some, None, Result, Ok, Err, refl, sym, ap, ◌∙◌}
use Rattle.std.specs.List.{list_all}
use Rattle.std.specs.Map.{keys_of}
use Rattle.std.proofs.lemmas.Bool.{cond-true}
use Rattle.pgs_base.specs.declared.element.NodeId.{NodeId}
use Rattle.pgs_base.specs.declared.element.EdgeId.{EdgeId}
use Rattle.pgs_base.specs.declared.row.NodeRow.{NodeRow}
use Rattle.pgs_base.specs.declared.row.EdgeRow.{EdgeRow}
use Rattle.pgs_base.specs.Graph.{node_cmp, edge_cmp, has_ends, is_node_entry, is_edge_entry, is_graph}
use Rattle.pgs_base.specs.Order.{ascends}
use Rattle.pgs_base.specs.Options.{◌>>=◌}
use Rattle.pgs_base.proofs.Graphs.{graph_from}
use Rattle.pgs_codec.specs.declared.command.Command.{Command}
use Rattle.pgs_codec.specs.declared.command.Command.TheVariants.{Snapshot}
use Rattle.pgs_codec.specs.declared.unread.Unread.{Unread}
use Rattle.pgs_codec.specs.declared.unread.Unread.TheVariants as unread
use Rattle.pgs_codec.specs.Encodable.{snapshot_graph}
use Rattle.pgs_codec.specs.Reading.{named_at, tested_at, snapshot_parts_at, snapshot_at}
use Rattle.pgs_codec.specs.Unread.{Fails, Gives, Reads}
use Rattle.pgs_codec.proofs.Exact.{same_given}

-- the snapshot where the rows are a graph
abbrev pub if_graph : ℕ → List (NodeId × NodeRow) → List (EdgeId × EdgeRow) → Option Command
if_graph commits nodes edges = cond (is_graph (snapshot_graph nodes edges)) (Some (Snapshot commits nodes edges)) None

with_rest : (b : Bool) (command : Command) (left : List ℕ) (found : Command) → cond b (Some command) None ≡ Some found → cond {A = Option (Command × List ℕ)} b (Some (command, left)) None ≡ Some (found, left)
with_rest true command left found e = ap (λ c. Some (c, left)) (same_given command found e)
with_rest false command left found e = absurd cc

none_left : (b : Bool) (command : Command) (left : List ℕ) → cond b (Some command) None ≡ None → cond {A = Option (Command × List ℕ)} b (Some (command, left)) None ≡ None
none_left true command left e = absurd cc
none_left false command left e = refl

abbrev Parts : Type 0
Parts = ℕ × (List (NodeId × NodeRow) × List (EdgeId × EdgeRow))

abbrev snapshot_of : Parts × List ℕ → Option (Command × List ℕ)
snapshot_of a = Some (Snapshot a.0.0 a.0.1.0 a.0.1.1, a.1)

named_test : (b : Bool) (parts : Parts) (left : List ℕ) → (cond {A = Option (Parts × List ℕ)} b (Some (parts, left)) None >>= snapshot_of)
    ≡ cond {A = Option (Command × List ℕ)} b (Some (Snapshot parts.0 parts.1.0 parts.1.1, left)) None
named_test true parts left = refl
named_test false parts left = refl

module _ (rest left : List ℕ) (commits : ℕ) (nodes : List (NodeId × NodeRow)) (edges : List (EdgeId × EdgeRow)) (read : snapshot_parts_at rest ≡ Some ((commits, (nodes, edges)), left)) where
  snapshot_read : snapshot_at rest ≡ cond {A = Option (Command × List ℕ)} (is_graph (snapshot_graph nodes edges)) (Some (Snapshot commits nodes edges, left)) None
  unfolding snapshot_at named_at tested_at
  snapshot_read = rw read (named_test (is_graph (snapshot_graph nodes edges)) (commits, (nodes, edges)) left)

  snapshot_found : (command : Command) → if_graph commits nodes edges ≡ Some command → snapshot_at rest ≡ Some (command, left)
  snapshot_found command e = snapshot_read ∙ with_rest (is_graph (snapshot_graph nodes edges)) (Snapshot commits nodes edges) left command e

  no_snapshot : (e : Unread) → Fails e (if_graph commits nodes edges) → Fails e (snapshot_at rest)
  no_snapshot unread.Memory f = tt
  no_snapshot unread.Unfit f = snapshot_read ∙ none_left (is_graph (snapshot_graph nodes edges)) (Snapshot commits nodes edges) left f

  pub snapshot_reads : (r : Result Command Unread) → Gives r (if_graph commits nodes edges) → Reads (λ command. command) r left (snapshot_at rest)
  snapshot_reads (Ok command) e = snapshot_found command e
  snapshot_reads (Err e) f = no_snapshot e f

-- rows that pass the three tests are a graph, since each can stand in one
pub graph_found : (commits : ℕ) (nodes same_nodes : List (NodeId × NodeRow)) (edges same_edges : List (EdgeId × EdgeRow)) → ascends node_cmp (keys_of nodes) ≡ true →
    ascends edge_cmp (keys_of edges) ≡ true → list_all is_node_entry nodes ≡ true → list_all is_edge_entry edges ≡ true →
    list_all (λ (edge : EdgeId × EdgeRow). has_ends (snapshot_graph nodes edges) edge.1) edges ≡ true → same_nodes ≡ nodes → same_edges ≡ edges →
    if_graph commits nodes edges ≡ Some (Snapshot commits same_nodes same_edges)
graph_found commits nodes same_nodes edges same_edges by_node by_edge stand join ends n e =
    cond-true (is_graph (snapshot_graph nodes edges)) (Some (Snapshot commits nodes edges)) None
    (graph_from (snapshot_graph nodes edges) (record { node_order = by_node; edge_order = by_edge; nodes = stand; edges = join; ends = ends }))
    ∙ ap (λ (l : List (NodeId × NodeRow)). Some (Snapshot commits l edges)) (sym n) ∙ ap (λ (l : List (EdgeId × EdgeRow)). Some (Snapshot commits same_nodes l)) (sym e)
