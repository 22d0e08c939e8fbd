use Rattle.std.proofs.Common.{length, sym, ◌∙◌, ap}
use Rattle.std.specs.List.{slice_get}
use Rattle.std.specs.Option.{option_copied}
use Rattle.pgs_base.specs.Pair.{same_name}
use Rattle.pgs_syntax.specs.declared.script.GraphType.{GraphType}
use Rattle.pgs_resolve_declared.proofs.Firsts.{named_at, named_nowhere, copied_at, within_sum}
use Rattle.pgs_resolve_declared.proofs.declarations.Declarations.graph.Goals as goal

pub returns-in-Some-clause-value : goal.returns-in-Some-clause-value
returns-in-Some-clause-value c script are =
    ap option_copied (c.at.ensures ∙ ap (λ graphs. slice_get graphs c.in-Some.number) c.deref.ensures.value)
    ∙ copied_at c.args.self.now.graphs.items c.in-Some.number ∙ ap (λ graphs. slice_get graphs c.in-Some.number) are.graphs
    ∙ sym (named_at (λ (type : GraphType). type.name) (same_name c.args.name.now) _ c.args.self.now.graph_names _ are.graph_names c.in-Some.ensures)

pub returns-in-None-clause-value : goal.returns-in-None-clause-value
returns-in-None-clause-value c script are =
    sym (named_nowhere (λ (type : GraphType). type.name) (same_name c.args.name.now) _ c.args.self.now.graph_names are.graph_names c.in-None.ensures)

pub returns-in-Some-clause-within : goal.returns-in-Some-clause-within
returns-in-Some-clause-within c =
    within_sum (λ type. length type.now.imports) c.args.self.now.graphs.items c.in-Some.number c.at.result
    (c.at.ensures ∙ ap (λ graphs. slice_get graphs c.in-Some.number) c.deref.ensures.value)
