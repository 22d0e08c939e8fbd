use Rattle.std.proofs.Common.{List, Some, sym, ◌∙◌, ap, arith}
use Rattle.pgs_base.specs.declared.element.NodeId.{NodeId}
use Rattle.pgs_codec.proofs.SnapshotWalk.{ids_read, ids_unread}
use Rattle.pgs_codec.proofs.walking.snapshot.walk_nodes.Goals as goal

pub returns-then-not-ascend : goal.returns-then-not-ascend
returns-then-not-ascend c =
    ids_unread c.args.reader.now.rest.now c.number64.new.self.rest.now c.in_ok-count.count c.in_ok-count.ensures (omega arith)
    c.in_ok-ids.ids.items c.walk_node_rows.new.reader.rest.now c.in_ok-ids.ensures (sym (rw c.as_slice.ensures.value at c.if-not-ascend.ensures))

pub returns : goal.returns
returns c =
    ids_read c.args.reader.now.rest.now c.number64.new.self.rest.now c.in_ok-count.count c.in_ok-count.ensures (omega arith)
    c.in_ok-ids.ids.items c.walk_node_rows.new.reader.rest.now c.in_ok-ids.ensures (sym (rw c.as_slice.ensures.value at c.if-not-ascend.ensures))
    ∙ ap (λ (ids : List NodeId). Some (ids, c.walk_node_rows.new.reader.rest.now)) (sym c.from_vec.ensures)
