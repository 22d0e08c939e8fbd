use Rattle.std.proofs.Common.{ℕ, List, ◌∙◌, ap}
use Rattle.pgs_syntax.specs.declared.element_type.NodeType.{NodeType}
use Rattle.pgs_base.specs.Pair.{same_name, has_name}
use Rattle.pgs_resolve_declared.proofs.Firsts.{some_found}
use Rattle.pgs_resolve_declared.proofs.declarations.Declarations.is_node.Goals as goal

pub returns : goal.returns
returns c script are =
    c.contains.ensures ∙ ap (has_name c.args.name.now) are.node_names
    ∙ some_found (λ (type : NodeType (List ℕ)). type.name) (same_name c.args.name.now) _
