use Rattle.std.proofs.Common.{not, sym, ◌∙◌, ap, arith}
use Rattle.pgs_resolve_declared.specs.Declarations.{is_graph_type}
use Rattle.pgs_resolve_declared.proofs.Firsts.{first_kept}
use Rattle.pgs_resolve_declared.proofs.unknown.unknown_import.Goals as goal

pub returns-then-not-is_graph : goal.returns-then-not-is_graph
returns-then-not-is_graph c script are =
    first_kept (λ name. not (is_graph_type script name)) c.args.imports.now _ _ (omega arith) c.name-item.is (c.loop-name.invariant script are)
    (ap not (sym (c.is_graph.ensures script are) ∙ c.if-not-is_graph.true))
