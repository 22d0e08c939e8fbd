use Rattle.std.proofs.Common.{◌≡◌, ℕ, ◌+◌, ◌-◌, ◌^◌, List, length, min, flat_map, ap, arith, length-append}
use Rattle.pgs_base.specs.declared.element.NodeId.{NodeId}
use Rattle.pgs_base.specs.declared.element.EdgeId.{EdgeId}
use Rattle.pgs_base.specs.declared.row.NodeRow.{NodeRow}
use Rattle.pgs_base.specs.declared.row.EdgeRow.{EdgeRow}
use Rattle.pgs_codec.specs.declared.command.Command.{Command}
use Rattle.pgs_codec.specs.declared.command.Command.TheVariants.{Snapshot}
use Rattle.pgs_codec.specs.Payload.{node_field, edge_field, edges_field, payload_of}
use Rattle.pgs_codec.proofs.encoding.size_of_payload.Goals as goal

-- the nodes, the edges, and the bytes before them
snapshot_sized : (command : Command) (commits : ℕ) (nodes sized_nodes : List (NodeId × NodeRow)) (edges sized_edges : List (EdgeId × EdgeRow)) (n e both all : ℕ) →
    command ≡ Snapshot commits nodes edges → sized_nodes ≡ nodes → sized_edges ≡ edges
    → n ≡ min (length (flat_map node_field sized_nodes)) (2 ^ 64 - 1) → e ≡ min (length (flat_map edge_field sized_edges)) (2 ^ 64 - 1)
    → both ≡ min (n + e) (2 ^ 64 - 1) → all ≡ min (both + 25) (2 ^ 64 - 1) → all ≡ min (length (payload_of command)) (2 ^ 64 - 1)
unfolding payload_of
snapshot_sized command commits nodes sized_nodes edges sized_edges n e both all is same_nodes same_edges sized_n sized_e sum total =
    let whole : length (payload_of (Snapshot commits nodes edges)) ≡ length (flat_map node_field nodes) + length (flat_map edge_field edges) + 25 =
    omega (arith, length-append (flat_map node_field nodes) (edges_field edges)) in
    omega (
      arith,
      whole,
      ap (λ c. length (payload_of c)) is,
      ap (λ (l : List (NodeId × NodeRow)). length (flat_map node_field l)) same_nodes,
      ap (λ (l : List (EdgeId × EdgeRow)). length (flat_map edge_field l)) same_edges,
    )

pub returns-in-Snapshot : goal.returns-in-Snapshot
returns-in-Snapshot c =
    snapshot_sized c.args.command.now c.in-Snapshot.commits c.in-Snapshot.nodes c.as_slice.result.now c.in-Snapshot.edges c.as_slice-in-Snapshot.result.now
    c.size_of_all.result c.size_of_all-in-Snapshot.result c.saturating_add-in-Snapshot.result c.saturating_add-in-Snapshot-2.result
    c.in-Snapshot.is c.as_slice.ensures c.as_slice-in-Snapshot.ensures c.size_of_all.ensures c.size_of_all-in-Snapshot.ensures
    c.saturating_add-in-Snapshot.ensures c.saturating_add-in-Snapshot-2.ensures
