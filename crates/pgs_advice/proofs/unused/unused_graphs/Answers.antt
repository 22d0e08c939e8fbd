use Rattle.std.proofs.Common.{◌≡◌, List, ℕ, map, ◌∙◌, ap, ap₂, subst}
use Rattle.std.specs.Prelude.{filter, IfOk}
use denote.Bor.{Bor}
use Rattle.pgs_syntax.specs.declared.script.GraphType.{GraphType}
use Rattle.pgs_resolve_declared.specs.Declarations.{graphs_of}
use Rattle.pgs_resolve_declared.specs.Imports.{walked_graphs}
use Rattle.pgs_resolve_declared.proofs.Walks.{map_through}
use Rattle.pgs_advice.specs.Unused.{is_outside, name_of}
use Rattle.pgs_advice.proofs.unused.unused_graphs.Goals as goal

abbrev lent : Bor GraphType → GraphType
lent graph = graph.now

pub returns : goal.returns
returns c script are =
    let names_are : c.in_ok-names.names ≡ map name_of (walked_graphs script) =
    c.in_ok-names.ensures ∙ ap (map (λ (graph : Bor GraphType). graph.now.name)) c.deref.ensures.value
    ∙ map_through lent name_of c.in_ok-used.used.items ∙ ap (map name_of) (c.in_ok-used.ensures script are) in
    let graphs_are : map lent c.deref-2.result.now ≡ graphs_of script = ap (map lent) c.deref-2.ensures.value ∙ are.graphs in
    subst (λ (ys : List GraphType). IfOk c.outside.result (λ unused. map lent unused.items ≡ ys))
    (ap₂ (λ (names : List (List ℕ)) (graphs : List GraphType). filter (is_outside names) graphs) names_are graphs_are) c.outside.ensures
