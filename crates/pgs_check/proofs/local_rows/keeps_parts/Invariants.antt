use Rattle.std.proofs.Common.{◌≡◌, true, take}
use Rattle.std.specs.List.{list_all}
use Rattle.pgs_check.specs.Own.{keeps_part}
use Rattle.pgs_check.proofs.local_rows.keeps_parts.Given as goal

abbrev pub invariant-loop-expr : goal.invariant-loop-expr
invariant-loop-expr l = list_all (keeps_part l.one) (take l.expr-index l.exprs) ≡ true
