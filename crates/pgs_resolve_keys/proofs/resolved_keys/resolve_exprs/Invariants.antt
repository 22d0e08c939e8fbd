use Rattle.std.proofs.Common.{◌≡◌, List, Bool, map, take}
use Rattle.pgs_resolve_keys.specs.Patterns.{Variable, resolved_expr}
use Rattle.pgs_resolve_keys.specs.VariableTable.{Holds}
use Rattle.pgs_resolve_keys.proofs.resolved_keys.resolve_exprs.Given as goal

abbrev pub invariant-loop-expr : goal.invariant-loop-expr
invariant-loop-expr l = (held : List (Variable × Bool)) → Holds held l.variables → l.resolved.items ≡ map (resolved_expr held) (take l.expr-index l.exprs)
