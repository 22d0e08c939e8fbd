use Rattle.std.proofs.Common.{◌≡◌, ℕ, true, ◌&&◌, List, [], ◌∷◌, ◌++◌, sym, ap, subst, ◌∙◌, append_assoc}
use Rattle.std.specs.List.{list_all}
use Rattle.std.proofs.lemmas.Bool.{and_parts, and_from}
use Rattle.pgs_base.specs.declared.element.NodeId.{NodeId}
use Rattle.pgs_base.specs.declared.element.EdgeId.{EdgeId}
use Rattle.pgs_base.specs.declared.row.NodeRow.{NodeRow}
use Rattle.pgs_base.specs.declared.row.EdgeRow.{EdgeRow}
use Rattle.pgs_base.specs.Graph.{is_graph}
use Rattle.pgs_codec.specs.declared.command.Command.{Command}
use Rattle.pgs_codec.specs.declared.command.Command.TheVariants as commands
use Rattle.pgs_codec.specs.Encodable.{is_small_node, is_small_edge, are_parts, snapshot_graph, is_sized, is_encodable}
use Rattle.pgs_codec.specs.Payload.{snapshot_field, payload_of}
use Rattle.pgs_codec.proofs.encoding.write_command.Goals as goal

-- the byte of a snapshot, and then its fields
snapshot_written : (command : Command) (commits : ℕ) (nodes written_nodes : List (NodeId × NodeRow)) (edges written_edges : List (EdgeId × EdgeRow)) (old pushed new : List ℕ) →
    command ≡ commands.Snapshot commits nodes edges → written_nodes ≡ nodes → written_edges ≡ edges → pushed ≡ old ++ 2 ∷ [] → new ≡ pushed ++ snapshot_field commits written_nodes written_edges →
    new ≡ old ++ payload_of command
unfolding payload_of
snapshot_written command commits nodes written_nodes edges written_edges old pushed new is n e h k =
    k ∙ ap (λ (l : List ℕ). l ++ snapshot_field commits written_nodes written_edges) h ∙ append_assoc old (2 ∷ []) (snapshot_field commits written_nodes written_edges)
    ∙ ap (λ (l : List (NodeId × NodeRow)). old ++ 2 ∷ snapshot_field commits l written_edges) n ∙ ap (λ (l : List (EdgeId × EdgeRow)). old ++ 2 ∷ snapshot_field commits nodes l) e
    ∙ ap (λ c. old ++ payload_of c) (sym is)

pub returns-in_ok-write_snapshot-in-Snapshot-clause-bytes : goal.returns-in_ok-write_snapshot-in-Snapshot-clause-bytes
returns-in_ok-write_snapshot-in-Snapshot-clause-bytes c =
    snapshot_written c.args.command.now c.in-Snapshot.commits c.in-Snapshot.nodes c.as_slice-in-Snapshot.result.now c.in-Snapshot.edges c.as_slice-in-Snapshot-2.result.now
    c.args.out.now.items c.push-in-Snapshot.new.self.items c.write_snapshot.new.out.items
    c.in-Snapshot.is c.as_slice-in-Snapshot.ensures c.as_slice-in-Snapshot-2.ensures c.in_ok-push-in-Snapshot.ensures.items c.in_ok-write_snapshot-in-Snapshot.ensures.bytes

snapshot_fits : (command : Command) (commits : ℕ) (nodes written_nodes : List (NodeId × NodeRow)) (edges written_edges : List (EdgeId × EdgeRow)) →
    command ≡ commands.Snapshot commits nodes edges → written_nodes ≡ nodes → written_edges ≡ edges → is_sized command ≡ true → are_parts commits written_nodes written_edges ≡ true →
    is_encodable command ≡ true
unfolding is_encodable
snapshot_fits command commits nodes written_nodes edges written_edges is n e sized fit =
    let whole = subst (λ c. is_sized c ≡ true) is sized in
    let small = list_all (λ (node : NodeId × NodeRow). is_small_node node.1) nodes && list_all (λ (edge : EdgeId × EdgeRow). is_small_edge edge.1) edges in
    let parts = subst (λ l. are_parts commits nodes l ≡ true) e (subst (λ l. are_parts commits l written_edges ≡ true) n fit) in
    subst (λ c. is_encodable c ≡ true) (sym is) (and_from (are_parts commits nodes edges) (is_graph (snapshot_graph nodes edges)) parts (and_parts small (is_graph (snapshot_graph nodes edges)) whole).1)

pub returns-in_ok-write_snapshot-in-Snapshot-clause-fit : goal.returns-in_ok-write_snapshot-in-Snapshot-clause-fit
returns-in_ok-write_snapshot-in-Snapshot-clause-fit c =
    snapshot_fits c.args.command.now c.in-Snapshot.commits c.in-Snapshot.nodes c.as_slice-in-Snapshot.result.now c.in-Snapshot.edges c.as_slice-in-Snapshot-2.result.now
    c.in-Snapshot.is c.as_slice-in-Snapshot.ensures c.as_slice-in-Snapshot-2.ensures c.requires c.in_ok-write_snapshot-in-Snapshot.ensures.fit

-- a transaction is written as such a command
pub returns-in_ok-write_txn-in-Txn-clause-bytes : goal.returns-in_ok-write_txn-in-Txn-clause-bytes
returns-in_ok-write_txn-in-Txn-clause-bytes c =
    c.in_ok-write_txn-in-Txn.ensures.bytes ∙ ap (λ command. c.args.out.now.items ++ payload_of command) (sym c.in-Txn.is)

pub returns-in_ok-write_txn-in-Txn-clause-fit : goal.returns-in_ok-write_txn-in-Txn-clause-fit
returns-in_ok-write_txn-in-Txn-clause-fit c = ap is_encodable c.in-Txn.is ∙ c.in_ok-write_txn-in-Txn.ensures.fit

-- the byte of a schema, and then its text
text_written : (command : Command) (text written : List ℕ) (old pushed new : List ℕ) → command ≡ commands.Schema text → written ≡ text → pushed ≡ old ++ 1 ∷ [] → new ≡ pushed ++ written → new ≡ old ++ payload_of command
unfolding payload_of
text_written command text written old pushed new is same h k =
    k ∙ ap (λ (l : List ℕ). l ++ written) h ∙ append_assoc old (1 ∷ []) written ∙ ap (λ l. old ++ 1 ∷ l) same ∙ ap (λ c. old ++ payload_of c) (sym is)

text_fits : (command : Command) (text : List ℕ) → command ≡ commands.Schema text → is_encodable command ≡ true
unfolding is_encodable
text_fits command text is = ap is_encodable is

pub returns-in_ok-extend_from_slice-in-Schema-clause-bytes : goal.returns-in_ok-extend_from_slice-in-Schema-clause-bytes
returns-in_ok-extend_from_slice-in-Schema-clause-bytes c =
    text_written c.args.command.now c.in-Schema.text c.as_slice.result.now c.args.out.now.items c.push.new.self.items c.extend_from_slice.new.self.items
    c.in-Schema.is c.as_slice.ensures c.in_ok-push-in-Schema.ensures.items c.in_ok-extend_from_slice-in-Schema.ensures.items

pub returns-in_ok-extend_from_slice-in-Schema-clause-fit : goal.returns-in_ok-extend_from_slice-in-Schema-clause-fit
returns-in_ok-extend_from_slice-in-Schema-clause-fit c = text_fits c.args.command.now c.in-Schema.text c.in-Schema.is
