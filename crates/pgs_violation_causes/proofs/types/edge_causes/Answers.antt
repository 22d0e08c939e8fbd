use Rattle.pgs_graph.specs.Reads.{edge_row}
use Rattle.pgs_violation_causes.specs.Types.{AreEdgeCauses, triple_of_edge}
use Rattle.pgs_violation_causes.proofs.Typed.{no_edge, ok_of, triple_of_none, triple_of_some}
use Rattle.pgs_violation_causes.proofs.types.edge_causes.Goals as goal

pub returns-in-Some-clause-causes : goal.returns-in-Some-clause-causes
returns-in-Some-clause-causes g c =
    let edge = c.in-Some.edge in
    ok_of c.row_causes.result (AreEdgeCauses c.args.compiled.now) _ _
    (triple_of_some (g.G.GraphRead.meaning c.args.graph.now) c.args.id (edge_row edge.source edge.target edge.labels.now edge.props.now) c.in-Some.ensures.value) c.row_causes.ensures.causes

pub returns-in-None-clause-causes : goal.returns-in-None-clause-causes
returns-in-None-clause-causes g c =
    let meaning = g.G.GraphRead.meaning c.args.graph.now in
    no_edge c.args.compiled.now (triple_of_edge meaning c.args.id) c.new.result (triple_of_none meaning c.args.id c.in-None.ensures.value) c.new.ensures
