use Rattle.std.proofs.Common.{sym, ◌∙◌, ap, arith, take, length, refl, ◌+◌}
use denote.Bor.{Bor}
use Rattle.std.specs.List.{flat_map, slice_get}
use Rattle.pgs_syntax.specs.declared.script.GraphType.{GraphType}
use Rattle.pgs_resolve_declared.specs.Refused.{unknown_in}
use Rattle.pgs_resolve_declared.proofs.Firsts.{first_at, none_more, none_of, none_first, flat_map_through}
use Rattle.pgs_resolve_declared.proofs.unknown.first_unknown.Goals as goal

pub returns-in-Some : goal.returns-in-Some
returns-in-Some c script are =
    let one = λ (graph : Bor GraphType). unknown_in script graph.now in
    first_at one c.deref-graph-items.result.now c.args.declarations.now.graphs.items _ _ _ (omega arith) c.graph-item.is
    c.deref-graph-items.ensures.value (ap (λ graphs. flat_map one (take c.loop-graph.graph-index graphs)) c.deref-graph-items.ensures.value ∙ c.loop-graph.invariant script are)
    (c.in-Some.ensures script are)
    ∙ ap (λ names. slice_get names 0) (flat_map_through (λ (graph : Bor GraphType). graph.now) (unknown_in script) c.args.declarations.now.graphs.items ∙ ap (flat_map (unknown_in script)) are.graphs)

pub loop-graph-preserved : goal.loop-graph-preserved
loop-graph-preserved c script are =
    let one = λ (graph : Bor GraphType). unknown_in script graph.now in
    let before = ap (λ graphs. flat_map one (take c.loop-graph.graph-index graphs)) c.deref-graph-items.ensures.value ∙ c.loop-graph.invariant script are in
    ap (λ graphs. flat_map one (take (c.loop-graph.graph-index + 1) graphs)) (sym c.deref-graph-items.ensures.value)
    ∙ none_more one c.deref-graph-items.result.now _ _ (omega arith) c.graph-item.is before (none_first _ (c.in-None.ensures script are))

pub returns : goal.returns
returns c script are =
    let one = λ (graph : Bor GraphType). unknown_in script graph.now in
    let none = none_of one c.args.declarations.now.graphs.items _ _ (omega (arith, ap length c.deref-graph-items.ensures.value)) refl (c.loop-graph.invariant script are) in
    ap (λ names. slice_get names 0) (sym none ∙ flat_map_through (λ (graph : Bor GraphType). graph.now) (unknown_in script) c.args.declarations.now.graphs.items ∙ ap (flat_map (unknown_in script)) are.graphs)
