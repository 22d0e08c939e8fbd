use Rattle.std.proofs.Common.{ℕ, List, sym, ◌∙◌, ap}
use Rattle.std.specs.List.{slice_get}
use Rattle.std.specs.Option.{option_copied}
use Rattle.pgs_base.specs.Pair.{same_name}
use Rattle.pgs_syntax.specs.declared.element_type.NodeType.{NodeType}
use Rattle.pgs_resolve_declared.proofs.Firsts.{named_at, named_nowhere, copied_at}
use Rattle.pgs_resolve_declared.proofs.declarations.Declarations.node.Goals as goal

pub returns-in-Some : goal.returns-in-Some
returns-in-Some c script are =
    ap option_copied (c.at.ensures ∙ ap (λ types. slice_get types c.in-Some.number) c.deref.ensures.value)
    ∙ copied_at c.args.self.now.nodes.items c.in-Some.number ∙ ap (λ types. slice_get types c.in-Some.number) are.nodes
    ∙ sym (named_at (λ (type : NodeType (List ℕ)). type.name) (same_name c.args.name.now) _ c.args.self.now.node_names _ are.node_names c.in-Some.ensures)

pub returns-in-None : goal.returns-in-None
returns-in-None c script are =
    sym (named_nowhere (λ (type : NodeType (List ℕ)). type.name) (same_name c.args.name.now) _ c.args.self.now.node_names are.node_names c.in-None.ensures)
