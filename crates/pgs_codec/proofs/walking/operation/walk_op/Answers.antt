use Rattle.std.proofs.Common.{◌<◌, ◌≤◌, sym, subst, arith}
use Rattle.pgs_codec.specs.Unread.{Passes}
use Rattle.pgs_codec.proofs.Walked.{added_node_end, added_edge_end, removed_end, set_node_end, set_edge_end, node_named_end, edge_named_end}
use Rattle.pgs_codec.proofs.walking.operation.walk_op.Goals as goal

pub returns-in-1 : goal.returns-in-1
returns-in-1 c =
    subst (Passes c.walk_added_node.result c.walk_added_node.new.reader.rest.now)
    (sym (added_node_end c.args.reader.now.rest.now c.in_ok-byte.field-0 c.byte.new.self.rest.now c.in_ok-byte.ensures c.in-1.is)) c.walk_added_node.ensures

pub returns-in-2 : goal.returns-in-2
returns-in-2 c =
    subst (Passes c.walk_added_edge.result c.walk_added_edge.new.reader.rest.now)
    (sym (added_edge_end c.args.reader.now.rest.now c.in_ok-byte.field-0 c.byte.new.self.rest.now c.in_ok-byte.ensures c.in-2.is)) c.walk_added_edge.ensures

pub returns-in-3 : goal.returns-in-3
returns-in-3 c =
    let low : 3 ≤ c.in_ok-byte.field-0 = omega arith in
    let high : c.in_ok-byte.field-0 < 6 = omega arith in
    subst (Passes c.walk_number.result c.walk_number.new.reader.rest.now)
    (sym (removed_end c.args.reader.now.rest.now c.in_ok-byte.field-0 c.byte.new.self.rest.now c.in_ok-byte.ensures low high)) c.walk_number.ensures

pub returns-in-6 : goal.returns-in-6
returns-in-6 c =
    subst (Passes c.walk_set.result c.walk_set.new.reader.rest.now)
    (sym (set_node_end c.args.reader.now.rest.now c.in_ok-byte.field-0 c.byte.new.self.rest.now c.in_ok-byte.ensures c.in-6.is)) c.walk_set.ensures

pub returns-in-7 : goal.returns-in-7
returns-in-7 c =
    let low : 7 ≤ c.in_ok-byte.field-0 = omega arith in
    let high : c.in_ok-byte.field-0 < 10 = omega arith in
    subst (Passes c.walk_named.result c.walk_named.new.reader.rest.now)
    (sym (node_named_end c.args.reader.now.rest.now c.in_ok-byte.field-0 c.byte.new.self.rest.now c.in_ok-byte.ensures low high)) c.walk_named.ensures

pub returns-in-11 : goal.returns-in-11
returns-in-11 c =
    let low : 11 ≤ c.in_ok-byte.field-0 = omega arith in
    let high : c.in_ok-byte.field-0 < 14 = omega arith in
    subst (Passes c.walk_named-in-11.result c.walk_named-in-11.new.reader.rest.now)
    (sym (edge_named_end c.args.reader.now.rest.now c.in_ok-byte.field-0 c.byte.new.self.rest.now c.in_ok-byte.ensures low high)) c.walk_named-in-11.ensures

pub returns-in-10 : goal.returns-in-10
returns-in-10 c =
    subst (Passes c.walk_set-in-10.result c.walk_set-in-10.new.reader.rest.now)
    (sym (set_edge_end c.args.reader.now.rest.now c.in_ok-byte.field-0 c.byte.new.self.rest.now c.in_ok-byte.ensures c.in-10.is)) c.walk_set-in-10.ensures
