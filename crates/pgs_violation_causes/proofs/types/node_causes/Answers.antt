use Rattle.std.proofs.Common.{Some, ap, ◌∙◌}
use Rattle.pgs_base.specs.Graph.{node_at}
use Rattle.pgs_violation_causes.specs.Types.{AreNodeCauses}
use Rattle.pgs_violation_causes.proofs.Typed.{no_node, ok_of}
use Rattle.pgs_violation_causes.proofs.types.node_causes.Goals as goal

pub returns-in-Some-clause-causes : goal.returns-in-Some-clause-causes
returns-in-Some-clause-causes g c =
    ok_of c.pair_causes.result (AreNodeCauses c.args.compiled.now) _ _ (ap Some c.pair_of.ensures ∙ c.in-Some.ensures.value) c.pair_causes.ensures

pub returns-in-None-clause-causes : goal.returns-in-None-clause-causes
returns-in-None-clause-causes g c =
    no_node c.args.compiled.now (node_at (g.G.GraphRead.meaning c.args.graph.now) c.args.id) c.new.result c.in-None.ensures.value c.new.ensures
