use Rattle.std.proofs.Common.{ℕ, List, sym, ◌∙◌, ap}
use Rattle.std.specs.List.{slice_get}
use Rattle.std.specs.Option.{option_copied}
use Rattle.pgs_base.specs.Pair.{same_name}
use Rattle.pgs_syntax.specs.declared.element_type.EdgeType.{EdgeType}
use Rattle.pgs_resolve_declared.proofs.Firsts.{named_at, named_nowhere, copied_at}
use Rattle.pgs_resolve_declared.proofs.declarations.Declarations.edge.Goals as goal

pub returns-in-Some : goal.returns-in-Some
returns-in-Some c script are =
    ap option_copied (c.at.ensures ∙ ap (λ types. slice_get types c.in-Some.number) c.deref.ensures.value)
    ∙ copied_at c.args.self.now.edges.items c.in-Some.number ∙ ap (λ types. slice_get types c.in-Some.number) are.edges
    ∙ sym (named_at (λ (type : EdgeType (List ℕ)). type.name) (same_name c.args.name.now) _ c.args.self.now.edge_names _ are.edge_names c.in-Some.ensures)

pub returns-in-None : goal.returns-in-None
returns-in-None c script are =
    sym (named_nowhere (λ (type : EdgeType (List ℕ)). type.name) (same_name c.args.name.now) _ c.args.self.now.edge_names are.edge_names c.in-None.ensures)
