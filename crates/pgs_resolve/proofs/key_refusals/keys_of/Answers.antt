use Rattle.std.proofs.Common.{◌∙◌, ap, arith}
use denote.Bor.{Bor}
use Rattle.std.specs.List.{flat_map}
use Rattle.std.proofs.lemmas.List.{take_all}
use Rattle.pgs_syntax.specs.declared.script.GraphType.{GraphType}
use Rattle.pgs_resolve.proofs.Each.{keys_in}
use Rattle.pgs_resolve_declared.proofs.Firsts.{flat_map_through}
use Rattle.pgs_resolve.proofs.key_refusals.keys_of.Goals as goal

abbrev lent : Bor GraphType → GraphType
lent graph = graph.now

pub returns : goal.returns
returns c script are =
    let graphs = c.args.declarations.now.graphs.items in
    c.loop-graph.invariant ∙ ap (flat_map (λ (graph : Bor GraphType). graph.now.keys)) (take_all c.loop-graph.graph-index graphs (omega arith))
    ∙ flat_map_through lent keys_in graphs ∙ ap (flat_map keys_in) are.graphs
