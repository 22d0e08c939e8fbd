use Rattle.std.proofs.Common.{map, ap, ◌∙◌}
use denote.Bor.{Bor}
use Rattle.pgs_syntax.specs.declared.script.GraphType.{GraphType}
use Rattle.pgs_advice.specs.Unused.{is_outside}
use Rattle.pgs_advice.proofs.Outside.{more_passed, all_passed}
use Rattle.pgs_advice.proofs.unused.outside.Goals as goal

abbrev lent : Bor GraphType → GraphType
lent graph = graph.now

pub loop-graph-preserved : goal.loop-graph-preserved
loop-graph-preserved c =
    more_passed lent (is_outside c.args.names.now) c.args.graphs.now c.loop-graph.graph-index c.graph-item.result (map lent c.loop-graph.unused.items)
    (map lent c.push_outside.new.unused.items) c.loop-graph-test.true c.graph-item.is c.loop-graph.invariant c.in_ok-push_outside.ensures

pub returns : goal.returns
returns c =
    all_passed lent (is_outside c.args.names.now) c.args.graphs.now c.loop-graph.graph-index (map lent c.loop-graph.unused.items) c.loop-graph-test.false c.loop-graph.invariant
