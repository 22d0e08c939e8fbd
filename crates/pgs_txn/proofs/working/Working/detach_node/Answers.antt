use Rattle.std.proofs.Common.{◌∙◌, ap, sym, Ok, None, is_some}
use Rattle.pgs_base.specs.Graph.{node_at}
use Rattle.pgs_violation.specs.declared.structural.Cause.TheVariants.{NoNode}
use Rattle.pgs_violation.specs.Staging.{detached}
use Rattle.pgs_txn.specs.Working.{graph_now}
use Rattle.pgs_txn.proofs.Looking.{least_put_now}
use Rattle.pgs_txn.proofs.Removed.{found_then, lone_detached, lone_stands, lone_lists, covered_then, only_then, same_node}
use Rattle.pgs_txn.proofs.working.Working.detach_node.Goals as goal

pub returns-clause-step : goal.returns-clause-step
returns-clause-step g c =
    let m = g.G.GraphRead.meaning c.args.graph.now in
    let id = c.args.id in
    let bare = c.drop_put_edges.new.self in
    let first = c.in_ok-drop_old_edges.ensures.only in
    let second = c.in_ok-drop_put_edges.ensures.only m first.stands in
    let both = only_then m id c.args.self.now c.drop_old_edges.new.self bare first second in
    let covered = covered_then m id c.drop_old_edges.new.self bare second c.in_ok-drop_old_edges.ensures.covered in
    let none = least_put_now m bare both.stands id covered None c.in_ok-drop_put_edges.ensures.none in
    let done = c.in_ok-drop_node.ensures in
    let now = graph_now m c.args.self.now in
    found_then (NoNode id) (node_at now id) (Ok (detached now id)) (sym c.has_node.ensures.value ∙ c.if-not-has_node.false)
    ∙ ap Ok (sym both.detaching
    ∙ lone_detached m bare c.drop_node.new.self both.stands id done.nodes c.drop_node.ensures.edges done.cleared done.count done.indexed none)

pub returns-clause-stands : goal.returns-clause-stands
returns-clause-stands g c =
    let m = g.G.GraphRead.meaning c.args.graph.now in
    let id = c.args.id in
    let bare = c.drop_put_edges.new.self in
    let first = c.in_ok-drop_old_edges.ensures.only in
    let second = c.in_ok-drop_put_edges.ensures.only m first.stands in
    let both = only_then m id c.args.self.now c.drop_old_edges.new.self bare first second in
    let covered = covered_then m id c.drop_old_edges.new.self bare second c.in_ok-drop_old_edges.ensures.covered in
    let none = least_put_now m bare both.stands id covered None c.in_ok-drop_put_edges.ensures.none in
    let done = c.in_ok-drop_node.ensures in
    lone_stands m bare c.drop_node.new.self both.stands id done.nodes c.drop_node.ensures.edges done.cleared done.count done.indexed none
    (ap is_some (same_node m id c.args.self.now bare both) ∙ sym c.has_node.ensures.value ∙ c.if-not-has_node.false)

pub returns-clause-lists : goal.returns-clause-lists
returns-clause-lists g c nodes edges may all =
    let m = g.G.GraphRead.meaning c.args.graph.now in
    let id = c.args.id in
    let bare = c.drop_put_edges.new.self in
    let first = c.in_ok-drop_old_edges.ensures.only in
    let second = c.in_ok-drop_put_edges.ensures.only m first.stands in
    let both = only_then m id c.args.self.now c.drop_old_edges.new.self bare first second in
    let covered = covered_then m id c.drop_old_edges.new.self bare second c.in_ok-drop_old_edges.ensures.covered in
    let none = least_put_now m bare both.stands id covered None c.in_ok-drop_put_edges.ensures.none in
    let done = c.in_ok-drop_node.ensures in
    lone_lists m bare c.drop_node.new.self both.stands id done.nodes c.drop_node.ensures.edges done.cleared done.count done.indexed none
    nodes edges may.0 (both.lists nodes edges may.1 all)
