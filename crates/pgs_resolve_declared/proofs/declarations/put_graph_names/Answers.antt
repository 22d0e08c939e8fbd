use Rattle.pgs_resolve_declared.proofs.Walks.{none_yet, more_mapped, all_mapped}
use Rattle.pgs_resolve_declared.proofs.declarations.put_graph_names.Goals as goal

pub loop-graph-init : goal.loop-graph-init
loop-graph-init c = none_yet c.args.names.now

pub loop-graph-preserved : goal.loop-graph-preserved
loop-graph-preserved c =
    more_mapped (λ type. type.now.name) c.args.names.now c.args.graphs.now c.loop-graph.graph-index c.graph-item.result c.loop-graph.names c.push.new.self c.in_ok-copy.field-0
    c.loop-graph-test.true c.graph-item.is c.loop-graph.invariant c.in_ok-copy.ensures c.in_ok-push.ensures.ok

pub returns : goal.returns
returns c =
    all_mapped (λ type. type.now.name) c.args.names.now c.args.graphs.now c.loop-graph.graph-index c.loop-graph.names c.loop-graph-test.false c.loop-graph.invariant
