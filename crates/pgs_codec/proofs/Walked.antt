-- What is walked past, of operations, transactions and payloads, and the kind of a payload beside its command.
use Rattle.std.proofs.Common.{◌≡◌, ℕ, ◌+◌, ◌^◌, ◌<◌, ◌≤◌, Bool, true, false, cond, List, length, Option, Some, None, ◌⊎◌, inl, inr, refl, ap, ◌∙◌, arith}
use Rattle.std.specs.Prelude.{eqb}
use Rattle.std.specs.Int.{w16, w32, w64}
use Rattle.std.specs.Map.{keys_of}
use Rattle.std.specs.Option.{option_map, option_map_or}
use Rattle.std.specs.Ordering.{nat_cmp}
use Rattle.std.specs.Cmp.Lexicographic.{slice_cmp}
use Rattle.std.proofs.lemmas.Bool.{le-leb, cases_lt}
use Rattle.pgs_base.specs.declared.element.NodeId.{NodeId}
use Rattle.pgs_base.specs.declared.element.EdgeId.{EdgeId}
use Rattle.pgs_base.specs.Options.{◌>>=◌}
use Rattle.pgs_base.specs.Order.{ascends}
use Rattle.pgs_graph.specs.declared.operation.Op.{Op}
use Rattle.pgs_graph.specs.declared.operation.Op.TheVariants.{RemoveNode, DetachNode, RemoveEdge}
use Rattle.pgs_codec.specs.declared.command.Command.{Command}
use Rattle.pgs_codec.specs.declared.command.Command.TheVariants as commands
use Rattle.pgs_codec.specs.declared.walking.payload.PayloadKind.{PayloadKind}
use Rattle.pgs_codec.specs.declared.walking.payload.PayloadKind.TheVariants as kinds
use Rattle.pgs_codec.specs.Places.{is_schema, is_txn, is_snapshot_within, is_payload_of, command_kind, is_schema_kind, is_txn_kind, is_snapshot_kind_within, is_payload_of_kind}
use Rattle.pgs_codec.specs.Reading.{Reading, pair_at, named_at, tested_at, many_at, counted_at, kind_in, kind_at, byte_at, number_at, name_at, labels_at, property_at, props_at, node_id, edge_id, node_id_at, edge_id_at, node_row_at, edge_row_at, node_at, edge_at, op_kinds, op_at, txn_at, whole, decoded}
use Rattle.pgs_codec.specs.Unread.{end_of}
use Rattle.pgs_codec.proofs.Exact.{byte_takes}
use Rattle.pgs_codec.proofs.Walks.{seen, pair_alike, named_end, keys_tested}

-- ---- properties

props_counted : (bytes b1 : List ℕ) (n : ℕ) → number_at w16 bytes ≡ Some (n, b1) → n ≤ 256 →
    end_of (props_at bytes) ≡ end_of (tested_at (λ props. ascends (slice_cmp nat_cmp) (keys_of props)) (many_at property_at n) b1)
unfolding props_at counted_at tested_at
props_counted bytes b1 n e le = rw (e, le-leb n 256 le) refl

pub props_end : (bytes b1 : List ℕ) (n : ℕ) → number_at w16 bytes ≡ Some (n, b1) → n ≤ 256 →
    end_of (props_at bytes) ≡ end_of (tested_at (ascends (slice_cmp nat_cmp)) (many_at (named_at (λ property. property.0) property_at) n) b1)
props_end bytes b1 n e le = props_counted bytes b1 n e le ∙ keys_tested (λ property. property.0) property_at (ascends (slice_cmp nat_cmp)) n b1

-- ---- operations

op_opened : (bytes : List ℕ) (kind : ℕ) (after : List ℕ) → byte_at bytes ≡ Some (kind, after) → op_at bytes ≡ kind_in op_kinds kind after
unfolding op_at
op_opened bytes kind after e = ap (kind_at op_kinds) (byte_takes bytes (kind, after) e)

node_id_end : (bytes : List ℕ) → end_of (node_id_at bytes) ≡ end_of (number_at w64 bytes)
unfolding node_id_at
node_id_end bytes = named_end node_id (number_at w64) bytes

edge_id_end : (bytes : List ℕ) → end_of (edge_id_at bytes) ≡ end_of (number_at w64 bytes)
unfolding edge_id_at
edge_id_end bytes = named_end edge_id (number_at w64) bytes

node_row_end : (bytes : List ℕ) → end_of (node_row_at bytes) ≡ end_of (pair_at labels_at props_at bytes)
unfolding node_row_at
node_row_end bytes = named_end _ (pair_at labels_at props_at) bytes

edge_row_end : (bytes : List ℕ) → end_of (edge_row_at bytes) ≡ end_of (pair_at (number_at w64) (pair_at (number_at w64) (pair_at labels_at props_at)) bytes)
unfolding edge_row_at
edge_row_end bytes =
    named_end _ (pair_at node_id_at (pair_at node_id_at (pair_at labels_at props_at))) bytes
    ∙ pair_alike node_id_at (pair_at node_id_at (pair_at labels_at props_at)) (number_at w64) (pair_at (number_at w64) (pair_at labels_at props_at)) bytes (node_id_end bytes)
    (λ rest. pair_alike node_id_at (pair_at labels_at props_at) (number_at w64) (pair_at labels_at props_at) rest (node_id_end rest) (λ rest. refl))

-- an operation that begins with the number of a node, or of an edge
node_first : {A B : Type 0} (name : NodeId × A → B) (field : Reading A) (bytes : List ℕ) → end_of (named_at name (pair_at node_id_at field) bytes) ≡ end_of (pair_at (number_at w64) field bytes)
node_first name field bytes = named_end name (pair_at node_id_at field) bytes ∙ pair_alike node_id_at field (number_at w64) field bytes (node_id_end bytes) (λ rest. refl)

edge_first : {A B : Type 0} (name : EdgeId × A → B) (field : Reading A) (bytes : List ℕ) → end_of (named_at name (pair_at edge_id_at field) bytes) ≡ end_of (pair_at (number_at w64) field bytes)
edge_first name field bytes = named_end name (pair_at edge_id_at field) bytes ∙ pair_alike edge_id_at field (number_at w64) field bytes (edge_id_end bytes) (λ rest. refl)

one_of_three : (n k : ℕ) → n ≤ k → k < n + 3 → (k ≡ n) ⊎ ((k ≡ n + 1) ⊎ (k ≡ n + 2))
one_of_three n k low high =
    elim (cases_lt n k) [
      | inr first ↦ inl (omega arith)
      | inl later ↦
          elim (cases_lt (n + 1) k) [
            | inr second ↦ inr (inl (omega arith))
            | inl last ↦ inr (inr (omega arith))
          ]
    ]

module _ (bytes : List ℕ) (kind : ℕ) (after : List ℕ) (opened : byte_at bytes ≡ Some (kind, after)) where
  -- where the operation of a kind ends
  kind_end : (k : ℕ) → kind ≡ k → (end : Option (List ℕ)) → end_of (kind_in op_kinds k after) ≡ end → end_of (op_at bytes) ≡ end
  kind_end k is end e = ap end_of (op_opened bytes kind after opened) ∙ ap (λ (k : ℕ). end_of (kind_in op_kinds k after)) is ∙ e

  pub added_node_end : kind ≡ 1 → end_of (op_at bytes) ≡ end_of (pair_at (number_at w64) (pair_at labels_at props_at) after)
  unfolding node_at
  added_node_end is = kind_end 1 is _ (node_first _ node_row_at after ∙ pair_alike (number_at w64) node_row_at (number_at w64) (pair_at labels_at props_at) after refl node_row_end)

  pub added_edge_end : kind ≡ 2 → end_of (op_at bytes) ≡ end_of (pair_at (number_at w64) (pair_at (number_at w64) (pair_at (number_at w64) (pair_at labels_at props_at))) after)
  unfolding edge_at
  added_edge_end is =
      kind_end 2 is _ (edge_first _ edge_row_at after
      ∙ pair_alike (number_at w64) edge_row_at (number_at w64) (pair_at (number_at w64) (pair_at (number_at w64) (pair_at labels_at props_at))) after refl edge_row_end)

  pub removed_end : 3 ≤ kind → kind < 6 → end_of (op_at bytes) ≡ end_of (number_at w64 after)
  removed_end low high =
      elim (one_of_three 3 kind low high) [
        | inl is ↦ kind_end 3 is _ (named_end RemoveNode node_id_at after ∙ node_id_end after)
        | inr (inl is) ↦ kind_end 4 is _ (named_end DetachNode node_id_at after ∙ node_id_end after)
        | inr (inr is) ↦ kind_end 5 is _ (named_end RemoveEdge edge_id_at after ∙ edge_id_end after)
      ]

  pub set_node_end : kind ≡ 6 → end_of (op_at bytes) ≡ end_of (pair_at (number_at w64) property_at after)
  set_node_end is = kind_end 6 is _ (node_first _ property_at after)

  pub set_edge_end : kind ≡ 10 → end_of (op_at bytes) ≡ end_of (pair_at (number_at w64) property_at after)
  set_edge_end is = kind_end 10 is _ (edge_first _ property_at after)

  pub node_named_end : 7 ≤ kind → kind < 10 → end_of (op_at bytes) ≡ end_of (pair_at (number_at w64) name_at after)
  node_named_end low high =
      elim (one_of_three 7 kind low high) [
        | inl is ↦ kind_end 7 is _ (node_first _ name_at after)
        | inr (inl is) ↦ kind_end 8 is _ (node_first _ name_at after)
        | inr (inr is) ↦ kind_end 9 is _ (node_first _ name_at after)
      ]

  pub edge_named_end : 11 ≤ kind → kind < 14 → end_of (op_at bytes) ≡ end_of (pair_at (number_at w64) name_at after)
  edge_named_end low high =
      elim (one_of_three 11 kind low high) [
        | inl is ↦ kind_end 11 is _ (edge_first _ name_at after)
        | inr (inl is) ↦ kind_end 12 is _ (edge_first _ name_at after)
        | inr (inr is) ↦ kind_end 13 is _ (edge_first _ name_at after)
      ]

-- ---- a transaction is walked to where it is read

abbrev txn_of : List Op → Command
txn_of ops = commands.Txn (record { ops = ops })

txn_walk : (ops : List ℕ) → option_map command_kind (txn_at ops >>= whole) ≡ (end_of (txn_at ops) >>= λ rest. cond (eqb (length rest) 0) (Some kinds.Txn) None)
unfolding txn_at named_at
txn_walk ops = by (counted_at w32 (2 ^ 32) op_at ops)
  where
    ended : (read : List Op) (rest : List ℕ) (empty : Bool) → option_map command_kind (cond empty (Some (commands.Txn (record { ops = read }))) None) ≡ cond empty (Some kinds.Txn) None
    ended read rest true = refl
    ended read rest false = refl

    by : (o : Option (List Op × List ℕ)) → option_map command_kind (seen txn_of o >>= whole) ≡ (end_of (seen txn_of o) >>= λ rest. cond (eqb (length rest) 0) (Some kinds.Txn) None)
    by None = refl
    by (Some a) = ended a.0 a.1 (eqb (length a.1) 0)

module _ (ops : List ℕ) where
  pub no_txn : end_of (txn_at ops) ≡ None → option_map command_kind (txn_at ops >>= whole) ≡ None
  no_txn e = txn_walk ops ∙ ap (λ (o : Option (List ℕ)). o >>= λ rest. cond (eqb (length rest) 0) (Some kinds.Txn) None) e

  pub txn_ended : (rest : List ℕ) → end_of (txn_at ops) ≡ Some rest → eqb (length rest) 0 ≡ true → option_map command_kind (txn_at ops >>= whole) ≡ Some kinds.Txn
  txn_ended rest e is = txn_walk ops ∙ ap (λ (o : Option (List ℕ)). o >>= λ rest. cond (eqb (length rest) 0) (Some kinds.Txn) None) e ∙ ap (λ (b : Bool). cond b (Some kinds.Txn) None) is

  pub txn_goes_on : (rest : List ℕ) → end_of (txn_at ops) ≡ Some rest → eqb (length rest) 0 ≡ false → option_map command_kind (txn_at ops >>= whole) ≡ None
  txn_goes_on rest e is = txn_walk ops ∙ ap (λ (o : Option (List ℕ)). o >>= λ rest. cond (eqb (length rest) 0) (Some kinds.Txn) None) e ∙ ap (λ (b : Bool). cond b (Some kinds.Txn) None) is

-- ---- places, told by the kind

module _ (test : Command → Bool) (kind_test : PayloadKind → Bool) (same : (command : Command) → test command ≡ kind_test (command_kind command)) where
  pub by_kind : (bytes : List ℕ) → is_payload_of test bytes ≡ is_payload_of_kind kind_test bytes
  by_kind bytes = by (decoded bytes)
    where
      by : (o : Option Command) → option_map_or test o false ≡ option_map_or kind_test (option_map command_kind o) false
      by None = refl
      by (Some command) = same command

pub schema_by_kind : (bytes : List ℕ) → is_payload_of is_schema bytes ≡ is_payload_of_kind is_schema_kind bytes
schema_by_kind = by_kind is_schema is_schema_kind same
  where
    same : (command : Command) → is_schema command ≡ is_schema_kind (command_kind command)
    same (commands.Schema text) = refl
    same (commands.Snapshot commits nodes edges) = refl
    same (commands.Txn txn) = refl

pub txn_by_kind : (bytes : List ℕ) → is_payload_of is_txn bytes ≡ is_payload_of_kind is_txn_kind bytes
txn_by_kind = by_kind is_txn is_txn_kind same
  where
    same : (command : Command) → is_txn command ≡ is_txn_kind (command_kind command)
    same (commands.Schema text) = refl
    same (commands.Snapshot commits nodes edges) = refl
    same (commands.Txn txn) = refl

pub snapshot_by_kind : (most : ℕ) (bytes : List ℕ) → is_payload_of (is_snapshot_within most) bytes ≡ is_payload_of_kind (is_snapshot_kind_within most) bytes
snapshot_by_kind most = by_kind (is_snapshot_within most) (is_snapshot_kind_within most) same
  where
    same : (command : Command) → is_snapshot_within most command ≡ is_snapshot_kind_within most (command_kind command)
    same (commands.Schema text) = refl
    same (commands.Snapshot commits nodes edges) = refl
    same (commands.Txn txn) = refl
