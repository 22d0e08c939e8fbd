use Rattle.std.proofs.Common.{◌≡◌, ◌++◌, map, take}
use Rattle.pgs_advice_lines.specs.Lines.{unused_graph_line}
use Rattle.pgs_advice_lines.specs.Telling.{warn}
use Rattle.pgs_advice_lines.proofs.telling.push_graphs.Given as goal

abbrev pub invariant-loop-graph : goal.invariant-loop-graph
invariant-loop-graph l =
    l.lines.items ≡ l.fn.lines.items ++ map (λ graph. warn (unused_graph_line graph.now.name)) (take l.graph-index l.graphs)
