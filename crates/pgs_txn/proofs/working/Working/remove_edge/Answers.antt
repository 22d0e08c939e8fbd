use Rattle.std.proofs.Common.{◌∙◌, ap, sym, Ok, None}
use Rattle.pgs_base.specs.Graph.{edge_at, without_edge}
use Rattle.pgs_violation.specs.declared.structural.Cause.TheVariants.{NoEdge}
use Rattle.pgs_txn.specs.Working.{graph_now}
use Rattle.pgs_txn.proofs.Removed.{found_then, dropped_graph, dropped_stands}
use Rattle.pgs_txn.proofs.Standing.{lists_after_edge}
use Rattle.pgs_txn.proofs.working.Working.remove_edge.Goals as goal

pub returns-clause-step : goal.returns-clause-step
returns-clause-step g c =
    let m = g.G.GraphRead.meaning c.args.graph.now in
    let now = graph_now m c.args.self.now in
    found_then (NoEdge c.args.id) (edge_at now c.args.id) (Ok (without_edge now c.args.id)) (sym c.has_edge.ensures.value ∙ c.if-not-has_edge.false)
    ∙ ap Ok (sym (dropped_graph m c.args.self.now c.drop_edge.new.self c.requires c.args.id c.in_ok-drop_edge.ensures.edges c.drop_edge.ensures.nodes c.drop_edge.ensures.cleared
    c.in_ok-drop_edge.ensures.count c.in_ok-drop_edge.ensures.indexed))

pub returns-clause-stands : goal.returns-clause-stands
returns-clause-stands g c =
    dropped_stands (g.G.GraphRead.meaning c.args.graph.now) c.args.self.now c.drop_edge.new.self c.requires c.args.id c.in_ok-drop_edge.ensures.edges c.drop_edge.ensures.nodes
    c.drop_edge.ensures.cleared c.in_ok-drop_edge.ensures.count c.in_ok-drop_edge.ensures.indexed (sym c.has_edge.ensures.value ∙ c.if-not-has_edge.false)

pub returns-clause-lists : goal.returns-clause-lists
returns-clause-lists g c nodes edges own all =
    lists_after_edge (g.G.GraphRead.meaning c.args.graph.now) c.args.self.now c.requires c.drop_edge.new.self c.in_ok-drop_edge.ensures.indexed c.drop_edge.ensures.cleared
    c.args.id None c.in_ok-drop_edge.ensures.edges c.drop_edge.ensures.nodes nodes edges own all
