use Rattle.std.proofs.Common.{map, refl}
use Rattle.pgs_resolve_declared.specs.Declarations.{graph_named}
use Rattle.pgs_resolve_declared.proofs.Walks.{none_yet, more_kept, all_kept}
use Rattle.pgs_resolve_declared.proofs.imports.push_graphs.Goals as goal

pub loop-name-init : goal.loop-name-init
loop-name-init c script are = none_yet (map (λ graph. graph.now) c.args.graphs.now.items)

pub loop-name-preserved : goal.loop-name-preserved
loop-name-preserved c script are =
    more_kept (graph_named script) (map (λ graph. graph.now) c.args.graphs.now.items) c.args.names.now c.loop-name.name-index c.name-item.result
    (map (λ graph. graph.now) c.loop-name.graphs.items) (map (λ graph. graph.now) c.push_graph.new.graphs.items)
    c.loop-name-test.true c.name-item.is (c.loop-name.invariant script are) (c.in_ok-push_graph.ensures script are)

pub returns : goal.returns
returns c script are =
    all_kept (graph_named script) (map (λ graph. graph.now) c.args.graphs.now.items) c.args.names.now c.args.names.now c.loop-name.name-index
    (map (λ graph. graph.now) c.loop-name.graphs.items) c.loop-name-test.false refl (c.loop-name.invariant script are)
