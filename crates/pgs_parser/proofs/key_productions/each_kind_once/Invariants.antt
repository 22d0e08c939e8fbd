use Rattle.std.proofs.Common.{◌≡◌, length}
use Rattle.pgs_syntax.specs.Valid.{are_distinct}
use Rattle.pgs_parser.specs.Keys.{is_same_kind}
use Rattle.pgs_parser.proofs.key_productions.each_kind_once.Given as goal

abbrev pub invariant-loop-rest : goal.invariant-loop-rest
invariant-loop-rest l = are_distinct is_same_kind l.rest ≡ are_distinct is_same_kind l.fn.written

abbrev pub decreases-loop-rest : goal.decreases-loop-rest
decreases-loop-rest l = length l.rest
