use Rattle.std.proofs.Common.{◌≡◌, map, take}
use Rattle.std.specs.List.{enumerate_from}
use Rattle.pgs_key_causes.specs.Fronts.{expr_front}
use Rattle.pgs_key_causes.proofs.exprs.Resolving.expr_fronts.Given as goal

abbrev pub invariant-loop-number : goal.invariant-loop-number
invariant-loop-number l = l.fronts.items ≡ map (expr_front l.resolved) (take l.number (enumerate_from 0 l.exprs))
