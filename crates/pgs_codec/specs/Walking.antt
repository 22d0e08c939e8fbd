-- Walking over a payload, which builds nothing.
use Rattle.std.specs.Prelude.{ℕ, ◌^◌, Bool, true, ◌&&◌, List, Option, Some, None}
use Rattle.std.specs.Int.{w64}
use Rattle.std.specs.Ordering.{is_lt}
use Rattle.std.specs.declared.cmp.Ordering.{Ordering}
use Rattle.std.specs.List.{list_any}
use Rattle.std.specs.BTreeMap.{is_at}
use Rattle.std.specs.Option.{option_map}
use Rattle.pgs_base.specs.declared.element.NodeId.{NodeId}
use Rattle.pgs_base.specs.declared.element.EdgeId.{EdgeId}
use Rattle.pgs_base.specs.declared.row.EdgeRow.{EdgeRow}
use Rattle.pgs_base.specs.Graph.{node_cmp, edge_cmp}
use Rattle.pgs_base.specs.Options.{◌>>=◌}
use Rattle.pgs_base.specs.Order.{ascends}
use Rattle.pgs_codec.specs.declared.command.Command.{Command}
use Rattle.pgs_codec.specs.declared.walking.payload.PayloadKind.{PayloadKind}
use Rattle.pgs_codec.specs.Places.{command_kind}
use Rattle.pgs_codec.specs.Reading.{Reading, named_at, tested_at, counted_at, node_at, edge_at, whole}

-- whether a key comes after the one before it, where there is one
abbrev pub is_after : {K : Type 0} → (K → K → Ordering) → Option K → K → Bool
is_after cmp None key = true
is_after cmp (Some before) key = is_lt (cmp before key)

-- whether both ends of an edge are among nodes
abbrev pub has_ends_in : List NodeId → EdgeRow → Bool
has_ends_in nodes row = list_any (is_at (node_cmp row.source)) nodes && list_any (is_at (node_cmp row.target)) nodes

-- the numbers of so many nodes, which ascend strictly
unfoldable pub node_ids_at : Reading (List NodeId)
node_ids_at = tested_at (ascends node_cmp) (counted_at w64 (2 ^ 64) (named_at (λ node. node.0) node_at))

-- the number of an edge whose ends are among nodes
unfoldable pub edge_id_in : List NodeId → Reading EdgeId
edge_id_in nodes = named_at (λ edge. edge.0) (tested_at (λ edge. has_ends_in nodes edge.1) edge_at)

-- the numbers of so many such edges, which ascend strictly
unfoldable pub edge_ids_in : List NodeId → Reading (List EdgeId)
edge_ids_in nodes = tested_at (ascends edge_cmp) (counted_at w64 (2 ^ 64) (edge_id_in nodes))

-- the kind of the command that is read from the bytes behind the first
abbrev pub kind_behind : Reading Command → List ℕ → Option PayloadKind
kind_behind command bytes = option_map command_kind (command bytes >>= whole)
