use Rattle.std.proofs.Common.{◌≡◌, ◌++◌, option_map, drop}
use Rattle.pgs_check.specs.Own.{own_tuple}
use Rattle.pgs_check.proofs.own_row.own_tuple.Given as goal

abbrev pub invariant-loop-expr : goal.invariant-loop-expr
invariant-loop-expr l =
    own_tuple l.elem l.props l.exprs ≡ option_map (λ rest. l.parts.items ++ rest) (own_tuple l.elem l.props (drop l.expr-index l.exprs))
