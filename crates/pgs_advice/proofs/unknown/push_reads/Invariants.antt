use Rattle.std.proofs.Common.{◌≡◌, take}
use Rattle.std.specs.List.{filter_map, fold}
use Rattle.pgs_advice.specs.Unknown.{unknown_read, with_word}
use Rattle.pgs_advice.proofs.unknown.push_reads.Given as goal

abbrev pub invariant-loop-expr : goal.invariant-loop-expr
invariant-loop-expr l =
    l.found.items ≡ fold with_word l.fn.found.items (filter_map (unknown_read l.words l.edge_vars) (take l.expr-index l.exprs))
