use Rattle.std.proofs.Common.{◌∙◌, ap, arith}
use denote.Bor.{Bor}
use Rattle.std.specs.List.{list_all}
use Rattle.pgs_syntax.specs.declared.script.GraphType.{GraphType}
use Rattle.pgs_resolve.specs.Keyed.{names_x}
use Rattle.pgs_resolve.proofs.Each.{each_at, flat_from}
use Rattle.pgs_resolve.proofs.guard_keys.resolve_keys.Goals as goal

pub push_keys-requires : goal.push_keys-requires
push_keys-requires c =
    ap (list_all names_x) c.as_slice.ensures
    ∙ each_at (λ (graph : Bor GraphType). list_all names_x graph.now.keys) c.args.graphs.now c.loop-graph.graph-index c.graph-item.result (omega arith)
    c.graph-item.is (flat_from names_x (λ (graph : Bor GraphType). graph.now.keys) c.args.graphs.now c.requires)
