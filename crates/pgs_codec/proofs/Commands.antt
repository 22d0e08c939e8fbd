-- Commands: a payload is decoded to its one command, and to no other.
use Rattle.std.proofs.Common.{◌≡◌, ℕ, ◌^◌, ◌<◌, Bool, true, ◌&&◌, List, [], ◌∷◌, ◌++◌, length, Option, Some, None, refl, sym, ap, subst, ◌∙◌, arith}
use Rattle.std.specs.Prelude.{eqb, leb, ltb}
use Rattle.std.specs.Int.{w32, w64, to_be_bytes}
use Rattle.std.specs.List.{list_all}
use Rattle.std.proofs.lemmas.Bool.{ltb-true, le-leb, and_parts, and_from, eqb-true}
use Rattle.std.proofs.lemmas.List.{append-nil, nil_from_length}
use Rattle.std.proofs.lemmas.Option.{cond_some}
use Rattle.pgs_base.specs.declared.element.NodeId.{NodeId}
use Rattle.pgs_base.specs.declared.element.EdgeId.{EdgeId}
use Rattle.pgs_base.specs.declared.row.NodeRow.{NodeRow}
use Rattle.pgs_base.specs.declared.row.EdgeRow.{EdgeRow}
use Rattle.pgs_base.specs.Graph.{is_graph}
use Rattle.pgs_base.specs.Options.{◌>>=◌}
use Rattle.pgs_graph.specs.declared.operation.Op.{Op}
use Rattle.pgs_codec.specs.declared.command.Command.{Command}
use Rattle.pgs_codec.specs.declared.command.Command.TheVariants as commands
use Rattle.pgs_codec.specs.Payload.{ops_field, nodes_field, edges_field, payload_of}
use Rattle.pgs_codec.specs.Encodable.{is_op, is_wide, is_node, is_edge, snapshot_graph, is_encodable, IsPayload}
use Rattle.pgs_codec.specs.Reading.{counted_at, op_at, node_at, edge_at, schema_at, txn_at, snapshot_parts_at, snapshot_at, command_kinds, kind_at, tested_at, whole, decoded}
use Rattle.pgs_codec.proofs.Exact.{IsBytes, Takes, IsExact, then_some, given, same_given, pair_exact, tested_exact, refit, counted_exact, named_again, four_bytes, eight_bytes, number_exact, row_takes, kind_takes}
use Rattle.pgs_codec.proofs.Fields.{node_exact, edge_exact}
use Rattle.pgs_codec.proofs.Ops.{op_exact}

-- a count below its limit, with the bound that reading tests
below : (n limit : ℕ) (all : Bool) → (ltb n limit && leb n limit && all) ≡ true → (ltb n limit && all) ≡ true
below n limit all e =
    let outer = and_parts (ltb n limit && leb n limit) all e in
    and_from (ltb n limit) all (and_parts (ltb n limit) (leb n limit) outer.0).0 outer.1

below_again : (n limit : ℕ) (all : Bool) → (ltb n limit && all) ≡ true → (ltb n limit && leb n limit && all) ≡ true
below_again n limit all e =
    let parts = and_parts (ltb n limit) all e in
    let lt : n < limit = ltb-true n limit parts.0 in
    and_from (ltb n limit && leb n limit) all (and_from (ltb n limit) (leb n limit) parts.0 (le-leb n limit (omega arith))) parts.1

ops_exact : IsExact ops_field (λ ops. ltb (length ops) (2 ^ 32) && list_all is_op ops) (counted_at w32 (2 ^ 32) op_at)
ops_exact = refit (counted_exact op_exact w32 (2 ^ 32) (2 ^ 32) four_bytes) (λ ops. ltb (length ops) (2 ^ 32) && list_all is_op ops)
    (λ ops e. below (length ops) (2 ^ 32) (list_all is_op ops) e) (λ ops e. below_again (length ops) (2 ^ 32) (list_all is_op ops) e)

pub nodes_exact : IsExact nodes_field (λ nodes. ltb (length nodes) (2 ^ 64) && list_all is_node nodes) (counted_at w64 (2 ^ 64) node_at)
nodes_exact = refit (counted_exact node_exact w64 (2 ^ 64) (2 ^ 64) eight_bytes) (λ nodes. ltb (length nodes) (2 ^ 64) && list_all is_node nodes)
    (λ nodes e. below (length nodes) (2 ^ 64) (list_all is_node nodes) e) (λ nodes e. below_again (length nodes) (2 ^ 64) (list_all is_node nodes) e)

pub edges_exact : IsExact edges_field (λ edges. ltb (length edges) (2 ^ 64) && list_all is_edge edges) (counted_at w64 (2 ^ 64) edge_at)
edges_exact = refit (counted_exact edge_exact w64 (2 ^ 64) (2 ^ 64) eight_bytes) (λ edges. ltb (length edges) (2 ^ 64) && list_all is_edge edges)
    (λ edges e. below (length edges) (2 ^ 64) (list_all is_edge edges) e) (λ edges e. below_again (length edges) (2 ^ 64) (list_all is_edge edges) e)

abbrev Parts : Type 0
Parts = ℕ × (List (NodeId × NodeRow) × List (EdgeId × EdgeRow))

abbrev parts_field : Parts → List ℕ
parts_field parts = to_be_bytes w64 parts.0 ++ (nodes_field parts.1.0 ++ edges_field parts.1.1)

abbrev are_parts : Parts → Bool
are_parts parts = is_wide parts.0 && ((ltb (length parts.1.0) (2 ^ 64) && list_all is_node parts.1.0) && (ltb (length parts.1.1) (2 ^ 64) && list_all is_edge parts.1.1))

abbrev parts_graph : Parts → Bool
parts_graph parts = is_graph (snapshot_graph parts.1.0 parts.1.1)

parts_exact : IsExact parts_field (λ parts. are_parts parts && parts_graph parts) (tested_at parts_graph snapshot_parts_at)
unfolding snapshot_parts_at
parts_exact = tested_exact (pair_exact (number_exact w64 (2 ^ 64) eight_bytes) (pair_exact nodes_exact edges_exact)) parts_graph

abbrev snapshot_of : Parts → Command
snapshot_of parts = commands.Snapshot parts.0 parts.1.0 parts.1.1

abbrev txn_of : List Op → Command
txn_of ops = commands.Txn (record { ops = ops })

command_takes : (bytes : List ℕ) (x : Command × List ℕ) → IsBytes bytes → kind_at command_kinds bytes ≡ Some x → Takes payload_of is_encodable bytes x
unfolding payload_of is_encodable schema_at snapshot_at txn_at
command_takes = kind_takes payload_of is_encodable command_kinds (
  λ bytes x fits e. subst (Takes payload_of is_encodable (1 ∷ bytes)) (same_given (commands.Schema bytes, []) x e) (record { spelled = sym (append-nil (1 ∷ bytes)); fit = refl }),
  (
    row_takes payload_of is_encodable 2 parts_exact snapshot_of (λ x e. refl) (λ x e. e),
    (row_takes payload_of is_encodable 3 ops_exact txn_of (λ x e. refl) (λ x e. e), tt),
  ),
)

-- what is decoded has these bytes as its payload
pub decoded_takes : (bytes : List ℕ) (command : Command) → IsBytes bytes → decoded bytes ≡ Some command → IsPayload command bytes
unfolding decoded
decoded_takes bytes command fits e =
    let a = then_some (kind_at command_kinds bytes) whole command e in
    let g = cond_some (eqb (length a.0.1) 0) a.0.0 command a.2 in
    let t = command_takes bytes a.0 fits a.1 in
    let ended : a.0.1 ≡ [] = nil_from_length a.0.1 (eqb-true (length a.0.1) 0 g.0) in
    subst (λ (c : Command). IsPayload c bytes) g.1 (record {
      encodable = t.fit;
      spelled = t.spelled ∙ ap (λ (l : List ℕ). payload_of a.0.0 ++ l) ended ∙ append-nil (payload_of a.0.0);
    })

-- a payload is decoded to its command
pub decoded_again : (command : Command) → is_encodable command ≡ true → decoded (payload_of command) ≡ Some command
unfolding payload_of is_encodable decoded schema_at snapshot_at txn_at
decoded_again (commands.Schema text) e = refl
decoded_again (commands.Snapshot commits nodes edges) e =
    let parts : Parts = (commits, (nodes, edges)) in
    ap (λ (o : Option (Command × List ℕ)). o >>= whole) (ap (λ (l : List ℕ). kind_at command_kinds (2 ∷ l)) (sym (append-nil (parts_field parts))) ∙ named_again parts_exact snapshot_of parts [] e)
decoded_again (commands.Txn txn) e =
    ap (λ (o : Option (Command × List ℕ)). o >>= whole) (ap (λ (l : List ℕ). kind_at command_kinds (3 ∷ l)) (sym (append-nil (ops_field txn.ops))) ∙ named_again ops_exact txn_of txn.ops [] e)

pub payload_decoded : (bytes : List ℕ) (command : Command) → IsPayload command bytes → decoded bytes ≡ Some command
payload_decoded bytes command p = ap decoded p.spelled ∙ decoded_again command p.encodable

-- two commands with one payload are one
pub one_command : (a b : Command) (bytes : List ℕ) → IsPayload a bytes → IsPayload b bytes → a ≡ b
one_command a b bytes p q = same_given a b (sym (payload_decoded bytes a p) ∙ payload_decoded bytes b q)

pub not_decoded : (bytes : List ℕ) (command : Command) → decoded bytes ≡ None → IsPayload command bytes → ⊥
not_decoded bytes command e p = let clash : given command ≡ None = sym (payload_decoded bytes command p) ∙ e in absurd cc
