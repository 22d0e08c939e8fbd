use Rattle.std.proofs.Common.{List, ◌++◌, map, ◌∙◌, ap, subst, ◌≡◌}
use Rattle.std.specs.Prelude.{OnOk}
use denote.Bor.{Bor}
use Rattle.pgs_syntax.specs.declared.script.GraphType.{GraphType}
use Rattle.pgs_resolve_declared.proofs.Walks.{map_through}
use Rattle.pgs_advice_lines.specs.declared.line.Line.{Line}
use Rattle.pgs_advice_lines.specs.Lines.{unused_graph_line}
use Rattle.pgs_advice_lines.specs.Telling.{unused_graph_lines, warn}
use Rattle.pgs_advice_lines.proofs.telling.push_unused_graphs.Goals as goal

abbrev lent : Bor GraphType → GraphType
lent graph = graph.now

abbrev line_of : GraphType → Line
line_of graph = warn (unused_graph_line graph.name)

abbrev line_at : Bor GraphType → Line
line_at graph = warn (unused_graph_line graph.now.name)

pub returns : goal.returns
returns c script are =
    let same : map line_at c.deref.result.now ≡ unused_graph_lines script =
    ap (map line_at) c.deref.ensures.value ∙ map_through lent line_of c.in_ok-graphs.graphs.items ∙ ap (map line_of) (c.in_ok-graphs.ensures script are) in
    subst (λ (ys : List Line). OnOk c.push_graphs.result (c.push_graphs.new.lines.items ≡ c.args.lines.now.items ++ ys)) same c.push_graphs.ensures
