use Rattle.std.proofs.Common.{◌≡◌, ℕ, ◌^◌, true, nat_lt, List, [], ◌∷◌, ◌++◌, length, ap, subst, ◌∙◌, append_assoc}
use Rattle.std.specs.List.{list_all}
use Rattle.std.proofs.lemmas.Bool.{and_parts, and_from}
use Rattle.pgs_graph.specs.declared.operation.Op.{Op}
use Rattle.pgs_graph.specs.declared.operation.Txn.{Txn}
use Rattle.pgs_codec.specs.declared.command.Command.TheVariants as commands
use Rattle.pgs_codec.specs.Encodable.{is_op, adds_small, is_sized, is_encodable}
use Rattle.pgs_codec.specs.Payload.{ops_field, payload_of}
use Rattle.pgs_codec.proofs.encoding.write_txn.Goals as goal

txn_written : (txn : Txn) (written : List Op) (old pushed new : List ℕ) →
    written ≡ txn.ops → pushed ≡ old ++ 3 ∷ [] → new ≡ pushed ++ ops_field written → new ≡ old ++ payload_of (commands.Txn txn)
unfolding payload_of
txn_written txn written old pushed new same h k =
    k ∙ ap (λ (l : List ℕ). l ++ ops_field written) h ∙ append_assoc old (3 ∷ []) (ops_field written) ∙ ap (λ l. old ++ 3 ∷ ops_field l) same

txn_fits : (txn : Txn) (written : List Op) → written ≡ txn.ops → is_sized (commands.Txn txn) ≡ true → list_all is_op written ≡ true → is_encodable (commands.Txn txn) ≡ true
unfolding is_encodable
txn_fits txn written same sized fit =
    let few = (and_parts (nat_lt (length txn.ops) (2 ^ 32)) (list_all adds_small txn.ops) sized).0 in
    and_from (nat_lt (length txn.ops) (2 ^ 32)) (list_all is_op txn.ops) few (subst (λ l. list_all is_op l ≡ true) same fit)

pub returns-clause-bytes : goal.returns-clause-bytes
returns-clause-bytes c =
    txn_written c.args.txn.now c.as_slice.result.now c.args.out.now.items c.push.new.self.items c.write_ops.new.out.items
    c.as_slice.ensures c.in_ok-push.ensures.items c.in_ok-write_ops.ensures.bytes

pub returns-clause-fit : goal.returns-clause-fit
returns-clause-fit c =
    txn_fits c.args.txn.now c.as_slice.result.now c.as_slice.ensures c.requires c.in_ok-write_ops.ensures.fit
