-- Reading a payload from left to right. A field is a value and the bytes after it.
use Rattle.std.specs.Prelude.{ℕ, zero, suc, ◌^◌, Bool, List, [], ◌∷◌, length, take, drop, Option, Some, None, nat_le, nat_lt, ◌==◌, if◌then◌else◌}
use Rattle.std.specs.Int.{Width, w16, w32, w64, byte_len, from_be_bytes, cast_signed}
use Rattle.std.specs.Ordering.{nat_cmp}
use Rattle.std.specs.Cmp.Lexicographic.{slice_cmp}
use Rattle.std.specs.Map.{keys_of}
use Rattle.pgs_base.specs.declared.element.NodeId.{NodeId}
use Rattle.pgs_base.specs.declared.element.EdgeId.{EdgeId}
use Rattle.pgs_base.specs.declared.row.NodeRow.{NodeRow}
use Rattle.pgs_base.specs.declared.row.EdgeRow.{EdgeRow}
use Rattle.pgs_base.specs.declared.value.Value.{Value}
use Rattle.pgs_base.specs.declared.value.Value.TheVariants as values
use Rattle.pgs_base.specs.Graph.{is_graph}
use Rattle.pgs_base.specs.Order.{ascends}
use Rattle.pgs_base.specs.Name.{is_name}
use Rattle.pgs_base.specs.Options.{◌>>=◌}
use Rattle.pgs_base.specs.Value.{is_text}
use Rattle.pgs_graph.specs.declared.operation.Op.{Op}
use Rattle.pgs_graph.specs.declared.operation.Op.TheVariants.{AddNode, AddEdge, RemoveNode, DetachNode, RemoveEdge, SetNode, UnsetNode, LabelNode, UnlabelNode, SetEdge, UnsetEdge, LabelEdge, UnlabelEdge}
use Rattle.pgs_codec.specs.declared.command.Command.{Command}
use Rattle.pgs_codec.specs.declared.command.Command.TheVariants as commands
use Rattle.pgs_codec.specs.Encodable.{is_date, snapshot_graph}

abbrev pub Reading : Type 0 → Type 0
Reading A = List ℕ → Option (A × List ℕ)

-- ---- how fields stand one after another

-- one field, and then another
unfoldable pub pair_at : {A B : Type 0} → Reading A → Reading B → Reading (A × B)
pair_at first second bytes = do
  a ← first bytes
  b ← second a.1
  Some ((a.0, b.0), b.1)

-- what a field names
unfoldable pub named_at : {A B : Type 0} → (A → B) → Reading A → Reading B
named_at name field bytes = field bytes >>= λ a. Some (name a.0, a.1)

-- a field that passes a test
unfoldable pub tested_at : {A : Type 0} → (A → Bool) → Reading A → Reading A
tested_at test field bytes = field bytes >>= λ a. if test a.0 then Some a else None

-- so many fields
unfoldable pub many_at : {A : Type 0} → Reading A → ℕ → Reading (List A)
many_at field zero bytes = Some ([], bytes)
many_at field (suc n) bytes = do
  first ← field bytes
  others ← many_at field n first.1
  Some (first.0 ∷ others.0, others.1)

-- the field that goes on behind a byte for its kind
abbrev pub kind_in : {A : Type 0} → List (ℕ × Reading A) → ℕ → Reading A
kind_in [] kind bytes = None
kind_in (row ∷ rows) kind bytes = if kind == row.0 then row.1 bytes else kind_in rows kind bytes

abbrev pub kind_at : {A : Type 0} → List (ℕ × Reading A) → Reading A
kind_at rows [] = None
kind_at rows (kind ∷ bytes) = kind_in rows kind bytes

-- ---- numbers, names, values

unfoldable pub bytes_at : ℕ → Reading (List ℕ)
bytes_at n bytes = if nat_lt (length bytes) n then None else Some (take n bytes, drop n bytes)

unfoldable pub byte_at : Reading ℕ
byte_at [] = None
byte_at (b ∷ bytes) = Some (b, bytes)

unfoldable pub number_at : Width → Reading ℕ
number_at w bytes = bytes_at (byte_len w) bytes >>= λ n. Some (from_be_bytes w n.0, n.1)

-- a count that is at most so much, and so many fields
unfoldable pub counted_at : {A : Type 0} → Width → ℕ → Reading A → Reading (List A)
counted_at w most field bytes = do
  count ← number_at w bytes
  if nat_le count.0 most then many_at field count.0 count.1 else None

unfoldable pub name_bytes_at : Reading (List ℕ)
name_bytes_at bytes = byte_at bytes >>= λ n. bytes_at n.0 n.1

unfoldable pub name_at : Reading (List ℕ)
name_at = tested_at is_name name_bytes_at

unfoldable pub text_bytes_at : Reading (List ℕ)
text_bytes_at bytes = number_at w16 bytes >>= λ n. bytes_at n.0 n.1

unfoldable pub text_at : Reading (List ℕ)
text_at = tested_at is_text text_bytes_at

-- 0 or 1
unfoldable pub truth_at : Reading ℕ
truth_at = tested_at (λ b. nat_le b 1) byte_at

unfoldable pub day_parts_at : Reading (ℕ × ℕ × ℕ)
day_parts_at = named_at (λ d. (d.0, d.1.0, d.1.1)) (pair_at (number_at w16) (pair_at byte_at byte_at))

unfoldable pub day_at : Reading (ℕ × ℕ × ℕ)
day_at = tested_at is_date day_parts_at

abbrev pub value_kinds : List (ℕ × Reading Value)
value_kinds =
    (1, named_at values.Text text_at) ∷ (2, named_at (λ n. values.Int (cast_signed w64 n)) (number_at w64))
    ∷ (3, named_at (λ b. values.Bool (b == 1)) truth_at) ∷ (4, named_at values.Date day_at) ∷ []

unfoldable pub value_at : Reading Value
value_at = kind_at value_kinds

-- ---- rows

unfoldable pub labels_at : Reading (List (List ℕ))
labels_at = tested_at (ascends (slice_cmp nat_cmp)) (counted_at w16 64 name_at)

unfoldable pub property_at : Reading (List ℕ × Value)
property_at = pair_at name_at value_at

unfoldable pub props_at : Reading (List (List ℕ × Value))
props_at = tested_at (λ props. ascends (slice_cmp nat_cmp) (keys_of props)) (counted_at w16 256 property_at)

abbrev pub node_id : ℕ → NodeId
node_id n = record { 0 = n }

abbrev pub edge_id : ℕ → EdgeId
edge_id n = record { 0 = n }

unfoldable pub node_id_at : Reading NodeId
node_id_at = named_at node_id (number_at w64)

unfoldable pub edge_id_at : Reading EdgeId
edge_id_at = named_at edge_id (number_at w64)

unfoldable pub node_row_at : Reading NodeRow
node_row_at = named_at (λ row. record { labels = row.0; props = row.1 }) (pair_at labels_at props_at)

unfoldable pub edge_row_at : Reading EdgeRow
edge_row_at =
    named_at (λ row. record { source = row.0; target = row.1.0; labels = row.1.1.0; props = row.1.1.1 })
    (pair_at node_id_at (pair_at node_id_at (pair_at labels_at props_at)))

unfoldable pub node_at : Reading (NodeId × NodeRow)
node_at = pair_at node_id_at node_row_at

unfoldable pub edge_at : Reading (EdgeId × EdgeRow)
edge_at = pair_at edge_id_at edge_row_at

-- ---- operations

abbrev pub op_kinds : List (ℕ × Reading Op)
op_kinds =
    (1, named_at (λ node. AddNode node.0 node.1.labels node.1.props) node_at)
    ∷ (2, named_at (λ edge. AddEdge edge.0 edge.1.source edge.1.target edge.1.labels edge.1.props) edge_at)
    ∷ (3, named_at RemoveNode node_id_at) ∷ (4, named_at DetachNode node_id_at) ∷ (5, named_at RemoveEdge edge_id_at)
    ∷ (6, named_at (λ set. SetNode set.0 set.1.0 set.1.1) (pair_at node_id_at property_at))
    ∷ (7, named_at (λ unset. UnsetNode unset.0 unset.1) (pair_at node_id_at name_at))
    ∷ (8, named_at (λ put. LabelNode put.0 put.1) (pair_at node_id_at name_at))
    ∷ (9, named_at (λ taken. UnlabelNode taken.0 taken.1) (pair_at node_id_at name_at))
    ∷ (10, named_at (λ set. SetEdge set.0 set.1.0 set.1.1) (pair_at edge_id_at property_at))
    ∷ (11, named_at (λ unset. UnsetEdge unset.0 unset.1) (pair_at edge_id_at name_at))
    ∷ (12, named_at (λ put. LabelEdge put.0 put.1) (pair_at edge_id_at name_at))
    ∷ (13, named_at (λ taken. UnlabelEdge taken.0 taken.1) (pair_at edge_id_at name_at)) ∷ []

unfoldable pub op_at : Reading Op
op_at = kind_at op_kinds

-- ---- commands

unfoldable pub schema_at : Reading Command
schema_at bytes = Some (commands.Schema bytes, [])

unfoldable pub txn_at : Reading Command
txn_at = named_at (λ ops. commands.Txn (record { ops = ops })) (counted_at w32 (2 ^ 32) op_at)

unfoldable pub snapshot_parts_at : Reading (ℕ × (List (NodeId × NodeRow) × List (EdgeId × EdgeRow)))
snapshot_parts_at = pair_at (number_at w64) (pair_at (counted_at w64 (2 ^ 64) node_at) (counted_at w64 (2 ^ 64) edge_at))

unfoldable pub snapshot_at : Reading Command
snapshot_at =
    named_at (λ parts. commands.Snapshot parts.0 parts.1.0 parts.1.1)
    (tested_at (λ parts. is_graph (snapshot_graph parts.1.0 parts.1.1)) snapshot_parts_at)

abbrev pub command_kinds : List (ℕ × Reading Command)
command_kinds = (1, schema_at) ∷ (2, snapshot_at) ∷ (3, txn_at) ∷ []

-- a field that leaves no bytes
abbrev pub whole : {A : Type 0} → A × List ℕ → Option A
whole field = if length field.1 == 0 then Some field.0 else None

-- the command whose payload the bytes are
unfoldable pub decoded : List ℕ → Option Command
decoded bytes = kind_at command_kinds bytes >>= whole
