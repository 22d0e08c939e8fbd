use Rattle.std.proofs.Common.{◌∙◌, ap, sym, Ok, Some, None}
use Rattle.pgs_base.specs.Graph.{node_at}
use Rattle.pgs_violation.specs.declared.structural.Cause.TheVariants.{NoNode}
use Rattle.pgs_violation.specs.Staging.{edges_at, lone_node_removed}
use Rattle.pgs_txn.specs.Working.{graph_now}
use Rattle.pgs_txn.proofs.Edges.{first_is_least, lone_from_first, refused_from_first}
use Rattle.pgs_txn.proofs.Removed.{found_then, lone_graph, lone_stands, lone_lists}
use Rattle.pgs_txn.proofs.Standing.{edges_now_ascend}
use Rattle.pgs_txn.proofs.working.Working.remove_node.Goals as goal

pub returns-in-Some-clause-step : goal.returns-in-Some-clause-step
returns-in-Some-clause-step g c =
    let m = g.G.GraphRead.meaning c.args.graph.now in
    let now = graph_now m c.args.self.now in
    let id = c.args.id in
    found_then (NoNode id) (node_at now id) (lone_node_removed now id (edges_at now id)) (sym c.has_node.ensures.value ∙ c.if-not-has_node.false)
    ∙ refused_from_first id now (edges_at now id) c.in-Some.edge
    (first_is_least id now.edges (edges_now_ascend m c.args.self.now c.requires) (Some c.in-Some.edge) c.in-Some.ensures.least)

pub returns-in_ok-drop_node-in-None-clause-step : goal.returns-in_ok-drop_node-in-None-clause-step
returns-in_ok-drop_node-in-None-clause-step g c =
    let m = g.G.GraphRead.meaning c.args.graph.now in
    let now = graph_now m c.args.self.now in
    let id = c.args.id in
    let done = c.in_ok-drop_node-in-None.ensures in
    found_then (NoNode id) (node_at now id) (lone_node_removed now id (edges_at now id)) (sym c.has_node.ensures.value ∙ c.if-not-has_node.false)
    ∙ lone_from_first id now (edges_at now id) (first_is_least id now.edges (edges_now_ascend m c.args.self.now c.requires) None c.in-None.ensures.least)
    ∙ ap Ok (sym (lone_graph m c.args.self.now c.drop_node.new.self c.requires id done.nodes c.drop_node.ensures.edges done.cleared done.count done.indexed c.in-None.ensures.least))

pub returns-in_ok-drop_node-in-None-clause-stands : goal.returns-in_ok-drop_node-in-None-clause-stands
returns-in_ok-drop_node-in-None-clause-stands g c =
    let done = c.in_ok-drop_node-in-None.ensures in
    lone_stands (g.G.GraphRead.meaning c.args.graph.now) c.args.self.now c.drop_node.new.self c.requires c.args.id done.nodes c.drop_node.ensures.edges done.cleared done.count
    done.indexed c.in-None.ensures.least (sym c.has_node.ensures.value ∙ c.if-not-has_node.false)

pub returns-in_ok-drop_node-in-None-clause-lists : goal.returns-in_ok-drop_node-in-None-clause-lists
returns-in_ok-drop_node-in-None-clause-lists g c nodes edges own all =
    let done = c.in_ok-drop_node-in-None.ensures in
    lone_lists (g.G.GraphRead.meaning c.args.graph.now) c.args.self.now c.drop_node.new.self c.requires c.args.id done.nodes c.drop_node.ensures.edges done.cleared done.count
    done.indexed c.in-None.ensures.least nodes edges own all
