use Rattle.std.proofs.Common.{Some, ap, ◌∙◌}
use Rattle.pgs_graph.specs.Reads.{edge_row}
use Rattle.pgs_syntax.specs.Typed.{triple_at}
use Rattle.pgs_violation_causes.specs.Types.{AreEdgeCauses}
use Rattle.pgs_violation_causes.proofs.Typed.{no_edge, of_ends, ok_of, without_source, without_target}
use Rattle.pgs_violation_causes.proofs.types.row_causes.Goals as goal

pub returns-in_default-clause-causes : goal.returns-in_default-clause-causes
returns-in_default-clause-causes g c =
    let row = edge_row c.args.edge.source c.args.edge.target c.args.edge.labels.now c.args.edge.props.now in
    let meaning = g.G.GraphRead.meaning c.args.graph.now in
    no_edge c.args.compiled.now (triple_at meaning row) c.new.result (without_source meaning row c.in_default.ensures.value) c.new.ensures

pub returns-in_default-node-clause-causes : goal.returns-in_default-node-clause-causes
returns-in_default-node-clause-causes g c =
    let row = edge_row c.args.edge.source c.args.edge.target c.args.edge.labels.now c.args.edge.props.now in
    let meaning = g.G.GraphRead.meaning c.args.graph.now in
    no_edge c.args.compiled.now (triple_at meaning row) c.new-in_default-node.result (without_target meaning row c.in_default-node.ensures.value) c.new-in_default-node.ensures

pub returns-clause-causes : goal.returns-clause-causes
returns-clause-causes g c =
    let row = edge_row c.args.edge.source c.args.edge.target c.args.edge.labels.now c.args.edge.props.now in
    ok_of c.triple_causes.result (AreEdgeCauses c.args.compiled.now) _ _
    (of_ends (g.G.GraphRead.meaning c.args.graph.now) row c.pair_of.result c.pair_of-2.result
    (ap Some c.pair_of.ensures ∙ c.in-Some.ensures.value) (ap Some c.pair_of-2.ensures ∙ c.in-Some-node.ensures.value))
    c.triple_causes.ensures
