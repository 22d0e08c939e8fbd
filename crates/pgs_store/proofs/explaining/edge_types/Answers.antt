use Rattle.std.proofs.Common.{Some, sym, ap, ◌∙◌}
use Rattle.pgs_graph.specs.Reads.{edge_row}
use Rattle.pgs_store.proofs.Fitting.{ok_same, of_ends}
use Rattle.pgs_store.proofs.explaining.edge_types.Goals as goal

pub returns : goal.returns
returns g c =
    let row = edge_row c.args.edge.source c.args.edge.target c.args.edge.labels.now c.args.edge.props.now in
    ok_same c.triple_types.result _ _
    (of_ends c.args.compiled.now (g.G.GraphRead.meaning c.args.graph.now) row c.pair_of.result c.pair_of-2.result
    (sym c.in-Some.ensures.value ∙ ap Some (sym c.pair_of.ensures)) (sym c.in-Some-node.ensures.value ∙ ap Some (sym c.pair_of-2.ensures)))
    c.triple_types.ensures
